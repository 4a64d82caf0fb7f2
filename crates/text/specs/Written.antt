-- What a function that puts a word or a line into a buffer promises: the bytes, where they end, and that they fit. Assumes nothing.
use Rattle.std.specs.Prelude.{◌≡◌, ℕ, ◌+◌, ◌≤◌, List, length}
use Rattle.fields.specs.Le.{put}

-- ys is xs with a word at an offset, where it fits; it ends at end
pub record Written (xs : List ℕ) (off : ℕ) (word ys : List ℕ) (end : ℕ) : Type 0 where
  pub bytes : ys ≡ put xs off word
  pub ends : end ≡ off + length word
  pub fits : end ≤ length xs
