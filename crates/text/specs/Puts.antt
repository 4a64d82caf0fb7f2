-- What a method that puts a word behind a text promises. Assumes nothing.
use Rattle.std.specs.Prelude.{◌≡◌, ℕ, List, length}
use Rattle.text.specs.Written.{Written}
use Rattle.text.specs.declared.Text.{Text}

-- the word stands where the old text ended, the new one ends behind it, and the buffer is the one that was lent, as long as before
pub record Puts (old : Text) (word : List ℕ) (new : Text) : Type 0 where
  pub written : Written old.buffer.now old.len word new.buffer.now new.len
  pub same_buffer : new.buffer.ghost_name ≡ old.buffer.ghost_name
  pub same_size : length new.buffer.now ≡ length old.buffer.now
