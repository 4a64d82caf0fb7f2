-- `sound::state::StepIndex::rise` meets its contract: the stored table is by the rule (`rises`: one test over the whole of it), so the
-- entry that is read is the rise (`entry-is`).
-- Assumes nothing.
use mathlib.Core.Path.{refl, ap, ◌∙◌}
use native.Mathlib.Omega.{arith}
use Prim.Native.Nat.{ℕ, ◌%◌}
use lib.ListN.{get_or}
use Rattle.sound.specs.Sound.{rise, steps}
use Rattle.sound.specs.declared.rises.TheConstants.{RISES}
use Rattle.sound.proofs.Table.{entry-is, rises}
use Rattle.sound.proofs.state.StepIndex.rise.Goals as goal

pub returns : goal.returns
unfolding steps
returns c =
    let s = c.self in
    let magnitude = c.args.nibble % 8 in
    entry-is RISES s.inside.row magnitude (rises RISES refl refl) s.invariant.0 s.invariant.1 (omega arith)
    ∙ ap (λ (i : ℕ). rise (get_or steps i 0) magnitude) s.view_is
