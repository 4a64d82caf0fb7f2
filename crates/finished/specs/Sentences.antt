-- 01's sentences about the check, a second time: by the bytes of the file. Assumes nothing.
use Rattle.std.specs.Prelude.{◌≡◌, true, List, [], ◌∷◌, ◌++◌, ℕ, ◌+◌, length}
use Rattle.chunk.specs.Chunk.{trailer_bytes}
use Rattle.error.specs.Answer.{accepted}
use Rattle.error.specs.Sentences.{RefusedBy}
use Rattle.prelude.specs.Layout.{prelude_len}
use Rattle.prelude.specs.Prelude.{strict_of}
use Rattle.prelude.specs.Sentences.{strict_numbers}
use Rattle.prelude.specs.declared.prelude.AmvPrelude.{AmvPrelude}
use Rattle.finished.specs.Check.{check_of}
use Rattle.finished.specs.declared.Totals.{Totals}

pub record CheckSentences : Type 0 where
  -- "10 to 24 as above; then per chunk, 8 bytes? 60. If trailer, last 8 of the file? 61. Tag known? 31. Payload whole? 60."
  pub numbers : (file : List ℕ) → RefusedBy (strict_numbers ++ (60 ∷ 61 ∷ 31 ∷ [])) (check_of file)
  -- "last 8 of the file": nothing follows the trailer that was answered
  pub last : (file : List ℕ) (t : Totals) → check_of file ≡ accepted t → t.trailer + 8 ≡ length file
  -- "any number of chunks, even none": a prelude and the trailer are a recording
  pub bare : (prelude : List ℕ) (p : AmvPrelude) → strict_of prelude ≡ accepted p → length prelude ≡ prelude_len
      → check_of (prelude ++ trailer_bytes) ≡ accepted (record { frames = 0; blocks = 0; samples = 0; trailer = prelude_len; paired = true })
