-- Document 02's decoded sound: small blocks whose samples are written out, and a case for each of its numbers. Assumes nothing.
use Rattle.std.specs.Prelude.{◌≡◌, List, [], ◌∷◌, ◌++◌, map, ℕ, zero, suc, ◌*◌, ℤ, pos, negsuc, replicate}
use Rattle.error.specs.Answer.{accepted}
use Rattle.fields.specs.Le.{le_bytes, Bytes}
use Rattle.sound.specs.Sound.{decode_of}
use Rattle.sound.specs.Sentences.{LevelAlone, apart, entry, level_in}
use Rattle.cases.specs.Numbers.{no, zeroed}

-- a block: a level as its 16 bits are, a step index, a count, and the bytes of its nibbles
abbrev pub block_of : ℕ → ℕ → ℕ → List ℕ → List ℕ
block_of level index count bytes = le_bytes 2 level ++ (le_bytes 2 index ++ (le_bytes 4 count ++ bytes))

-- a buffer of so many entries that no block here decodes to
abbrev pub kept : ℕ → List ℤ
kept n = replicate n (pos 77)

-- what a block leaves in a buffer that it fills, or in one entry more
abbrev pub samples_in : ℕ → List ℕ → List ℤ
samples_in room block = (decode_of block (kept room)).samples

-- the only sample of a nibble, from level 0 and a step index
abbrev pub single : ℕ → ℕ → ℤ
single nibble index = entry (samples_in 1 (block_of 0 index 1 (16 * nibble ∷ []))) 0

-- the numbers from n on, so many
abbrev pub from : ℕ → ℕ → List ℕ
from n zero = []
from n (suc k) = n ∷ from (suc n) k

-- E's block, and the same 5 higher
abbrev pub lower : List ℕ
lower = block_of 0 0 2 (le_bytes 2 0x2211)

abbrev pub higher : List ℕ
higher = block_of 5 0 2 (le_bytes 2 0x2211)

pub record Sounds : Type 0 where
  -- E's block, in a buffer of one entry more: "The starting level itself is not a sample", "entries past it stay"
  pub example : decode_of lower (kept 3) ≡ record { answer = accepted 2; samples = pos 1 ∷ pos 2 ∷ kept 1 }
  -- each nibble once, the high one first
  pub nibbles :
      samples_in 16 (block_of 0 30 16 (0x01 ∷ 0x23 ∷ 0x45 ∷ 0x67 ∷ 0x89 ∷ 0xab ∷ 0xcd ∷ 0xef ∷ []))
      ≡
      pos 16 ∷ pos 59 ∷ pos 125 ∷ pos 209 ∷ pos 308 ∷ pos 454 ∷ pos 708 ∷ pos 1229 ∷ pos 1155 ∷ pos 951 ∷ pos 643 ∷ pos 251 ∷
      negsuc 207 ∷ negsuc 885 ∷ negsuc 2061 ∷ negsuc 4464 ∷ []
  -- every step: step/8 plus step
  pub every_step : map (single 4) (from 0 89)
      ≡
      pos 7 ∷ pos 9 ∷ pos 10 ∷ pos 11 ∷ pos 12 ∷ pos 13 ∷ pos 14 ∷ pos 15 ∷ pos 18 ∷ pos 19 ∷ pos 21 ∷ pos 23 ∷ pos 25 ∷ pos 28 ∷
      pos 31 ∷ pos 34 ∷ pos 38 ∷ pos 41 ∷ pos 46 ∷ pos 50 ∷ pos 56 ∷ pos 61 ∷ pos 67 ∷ pos 74 ∷ pos 82 ∷ pos 90 ∷ pos 99 ∷
      pos 109 ∷ pos 120 ∷ pos 132 ∷ pos 146 ∷ pos 160 ∷ pos 176 ∷ pos 194 ∷ pos 213 ∷ pos 235 ∷ pos 258 ∷ pos 284 ∷ pos 313 ∷
      pos 345 ∷ pos 379 ∷ pos 417 ∷ pos 459 ∷ pos 505 ∷ pos 555 ∷ pos 612 ∷ pos 672 ∷ pos 740 ∷ pos 814 ∷ pos 895 ∷ pos 985 ∷
      pos 1083 ∷ pos 1192 ∷ pos 1311 ∷ pos 1442 ∷ pos 1587 ∷ pos 1746 ∷ pos 1920 ∷ pos 2112 ∷ pos 2324 ∷ pos 2556 ∷ pos 2811 ∷
      pos 3092 ∷ pos 3402 ∷ pos 3742 ∷ pos 4117 ∷ pos 4529 ∷ pos 4981 ∷ pos 5479 ∷ pos 6027 ∷ pos 6630 ∷ pos 7294 ∷ pos 8023 ∷
      pos 8825 ∷ pos 9708 ∷ pos 10679 ∷ pos 11747 ∷ pos 12922 ∷ pos 14214 ∷ pos 15636 ∷ pos 17200 ∷ pos 18920 ∷ pos 20812 ∷
      pos 22893 ∷ pos 25183 ∷ pos 27700 ∷ pos 30471 ∷ pos 32767 ∷ pos 32767 ∷ []
  -- every magnitude, up and down, at the largest step: "held within -32,768 to 32,767"
  pub every_nibble : map (λ nibble. single nibble 88) (from 0 16)
      ≡
      pos 4095 ∷ pos 12286 ∷ pos 20478 ∷ pos 28669 ∷ pos 32767 ∷ pos 32767 ∷ pos 32767 ∷ pos 32767 ∷ negsuc 4094 ∷ negsuc 12285 ∷
      negsuc 20477 ∷ negsuc 28668 ∷ negsuc 32767 ∷ negsuc 32767 ∷ negsuc 32767 ∷ negsuc 32767 ∷ []
  -- at either rail the level stays there: 0x7fff, and 0x8000 as 16 bits have it
  pub top : samples_in 2 (block_of 0x7fff 88 2 (0x74 ∷ [])) ≡ pos 32767 ∷ pos 32767 ∷ []
  pub bottom : samples_in 2 (block_of 0x8000 88 2 (0xfc ∷ [])) ≡ negsuc 32767 ∷ negsuc 32767 ∷ []
  -- the step index is held at 88, and at 0; the last low nibble of an odd count is free
  pub highest : samples_in 3 (block_of 0x8000 85 3 (0x77 ∷ 0x0f ∷ [])) ≡ pos 13398 ∷ pos 32767 ∷ pos 32767 ∷ []
  pub lowest : samples_in 4 (block_of 0 1 4 (0x00 ∷ 0x04 ∷ [])) ≡ pos 1 ∷ pos 1 ∷ pos 1 ∷ pos 8 ∷ []
  -- a count of 0, with nibbles and without; byte 3 is ignored
  pub none : decode_of (block_of 1 0 0 []) [] ≡ record { answer = accepted 0; samples = [] }
  pub none_used : decode_of (block_of 1 0 0 (0xff ∷ [])) (kept 1) ≡ record { answer = accepted 0; samples = kept 1 }
  pub ignored : samples_in 1 (block_of 0 0xff00 1 (0x10 ∷ [])) ≡ pos 1 ∷ []
  -- "after 25, step index above 88 is 71 at place 2", the first that is not well
  pub twenty_five : decode_of (zeroed 7) (kept 1) ≡ record { answer = no 25 0; samples = kept 1 }
  pub seventy_one : decode_of (block_of 0 89 9 []) (kept 1) ≡ record { answer = no 71 2; samples = kept 1 }
  pub seventy_one_not : (decode_of (block_of 0 88 0 []) []).answer ≡ accepted 0
  -- "count above twice the bytes after the preamble is 72 at 4"
  pub seventy_two : decode_of (block_of 0 88 3 (0 ∷ [])) (kept 1) ≡ record { answer = no 72 4; samples = kept 1 }
  pub seventy_two_not : (decode_of (block_of 0 88 2 (0 ∷ [])) (kept 2)).answer ≡ accepted 2
  -- "a buffer shorter than count is 73 at 0"
  pub seventy_three : decode_of (block_of 0 88 2 (0 ∷ [])) (kept 1) ≡ record { answer = no 73 0; samples = kept 1 }
  -- the claim of sound/Sentences about two starting levels is of blocks such as these, which are 5 apart, and so are their samples
  pub alone : LevelAlone lower higher
  pub lower_bytes : Bytes lower
  pub higher_bytes : Bytes higher
  pub levels_apart : apart (level_in lower) (level_in higher) ≡ 5
  pub samples_apart : apart (entry (samples_in 2 lower) 1) (entry (samples_in 2 higher) 1) ≡ 5
