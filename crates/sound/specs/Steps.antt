-- Steps on the way: the stored table, and a step index as the code keeps it. Nothing here need be believed. Assumes nothing.
use Rattle.std.specs.Prelude.{◌≡◌, ℕ, ◌*◌, ◌-◌, ◌/◌, ◌%◌, ◌<◌, min, List, [], ◌∷◌, length, get_or}
use Rattle.std.proofs.Common.{arith}
use Rattle.sound.specs.Sound.{rise, steps}

-- the stored table: 89 times 8 rises, each by the rule
pub record Rises (table : List ℕ) : Type 0 where
  pub size : length table ≡ 712
  pub rule : (k : ℕ) → k < 712 → get_or table k 0 ≡ rise (get_or steps (k / 8) 0) (k % 8)

-- a row is where the 8 rises of a step index begin, so it is had from the index
pub row_of_index : (row : ℕ) → row % 8 ≡ 0 → 8 * (row / 8) ≡ row
row_of_index row h = omega arith

-- what is added to a row, by the low three bits of a nibble: 8 for each step that the index moves, and 8 more, which are taken off again
abbrev pub row_move : ℕ → ℕ
row_move magnitude = get_or (0 ∷ 0 ∷ 0 ∷ 0 ∷ 24 ∷ 40 ∷ 56 ∷ 72 ∷ []) magnitude 0

-- a moved row, held within those of the table
abbrev pub held_row : ℕ → ℕ
held_row moved = min (moved - 8) 704
