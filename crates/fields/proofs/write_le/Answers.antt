-- `fields::write_le` meets its contract: the part that is stored over has as many bytes as the type (`part_put`). Assumes nothing.
use mathlib.Core.Path.{ap, ◌∙◌}
use native.Mathlib.Omega.{arith}
use Rattle.fields.specs.Le.{put}
use Rattle.fields.proofs.Laws.{length-le_bytes, part_put}
use Rattle.fields.proofs.write_le.Goals as goal

pub returns : goal.returns
returns g c =
    let a = c.args in
    part_put _ _ _ _ (rw c.store.ensures (omega (arith, c.WIDTH.ensures, length-le_bytes g.T.LittleEndian.WIDTH (g.T.LittleEndian.number a.v))))
    ∙ ap (put a.buf.now a.off) c.store.ensures
