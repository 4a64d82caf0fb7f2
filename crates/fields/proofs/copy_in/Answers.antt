-- `fields::copy_in` meets its contract: the part that is copied over has as many bytes as `src` (`part_put`). Assumes nothing.
use mathlib.Core.Path.{ap, ◌∙◌}
use native.Mathlib.Omega.{arith}
use lib.ListN.{length}
use Rattle.fields.specs.Le.{put}
use Rattle.fields.proofs.Laws.{part_put}
use Rattle.fields.proofs.copy_in.Goals as goal

pub returns : goal.returns
returns c =
    let a = c.args in
    let copied = c.copy_from_slice.ensures.after in
    part_put _ _ _ _ (omega (arith, ap length copied)) ∙ ap (put a.buf.now a.off) copied
