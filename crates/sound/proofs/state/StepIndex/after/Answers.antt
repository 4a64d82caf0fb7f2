-- `sound::state::StepIndex::after` meets its contract: a row that is moved and held is that of the index moved and held, for each magnitude
-- (`index-is`).
-- Assumes nothing.
use mathlib.Core.Path.{◌≡◌, ap, ◌∙◌}
use Prim.Native.Nat.{ℕ, ◌+◌, ◌/◌, ◌%◌}
use native.Mathlib.Omega.{arith}
use Rattle.std.proofs.lemmas.Int.{ints}
use Rattle.std.proofs.lemmas.Bool.Decides.{nat_tests}
use Rattle.sound.specs.Sound.{index_after}
use Rattle.sound.specs.Steps.{held_row, row_move}
use Rattle.sound.proofs.state.StepIndex.after.Goals as goal

index-is : (nibble row move held : ℕ) → held ≡ held_row (row + move) → move ≡ row_move (nibble % 8) → row % 8 ≡ 0
    → held / 8 ≡ index_after nibble (row / 8)
unfolding index_after
index-is nibble row move held h m w = grind (arith, ints, nat_tests)

pub returns : goal.returns
returns c =
    index-is c.args.nibble c.self.inside.row _ _ (rw c.saturating_sub.ensures at c.min.ensures) c.from.ensures c.self.invariant.0
    ∙ ap (index_after c.args.nibble) c.self.view_is
