-- 02's sentences about a decoded block, a second time: sample by sample, from the block's own bytes. Assumes nothing.
use Rattle.std.specs.Prelude.{◌≡◌, ℕ, zero, suc, ◌+◌, ◌*◌, ◌-◌, ◌/◌, ◌%◌, ◌≤◌, ◌<◌, min, cond, List, [], ◌∷◌, eqb, ℤ, pos, nat_abs, ◌+ℤ◌, ◌-ℤ◌, length, drop, get_or}
use Rattle.std.specs.Prelude.{Result, Ok, Err}
use Rattle.error.specs.declared.AmvError.{AmvError}
use Rattle.std.specs.Int.{w16}
use Rattle.std.proofs.Common.{to_z, SFits}
use Rattle.error.specs.Answer.{accepted, refused, numbered}
use Rattle.error.specs.Sentences.{GivesBack, RefusedBy}
use Rattle.fields.specs.Le.{le, Bytes}
use Rattle.sound.specs.Sound.{Decoder, Decodes, decode_nibble, decode_of, index_after, level_after, rise, steps}

-- "signed 16-bit starting level, step index byte, one ignored byte, u32 count"
abbrev pub level_in : List ℕ → ℤ
level_in block = to_z w16 (le 2 block 0)

abbrev pub index_in : List ℕ → ℕ
index_in block = get_or block 2 0

abbrev pub count_in : List ℕ → ℕ
count_in block = le 4 block 4

-- "then nibbles, the high one first": number k is in byte 8 + k/2, the high half of it where k is even
abbrev pub nibble_in : List ℕ → ℕ → ℕ
nibble_in block k = cond (eqb (k % 2) 0) (get_or block (8 + k / 2) 0 / 16) (get_or block (8 + k / 2) 0 % 16)

-- the rise of a nibble at a step index
abbrev pub rise_at : ℕ → ℕ → ℕ
rise_at index nibble = rise (get_or steps index 0) (nibble % 8)

-- the decoder after so many nibbles of a block
unfoldable pub after : List ℕ → ℕ → Decoder
after block zero = record { level = level_in block; index = index_in block }
after block (suc k) = decode_nibble (nibble_in block k) (after block k)

-- how far two levels are apart
abbrev pub apart : ℤ → ℤ → ℕ
apart a b = nat_abs (a -ℤ b)

-- two blocks that differ in the starting level alone
pub record LevelAlone (a b : List ℕ) : Type 0 where
  pub same_length : length a ≡ length b
  pub same_rest : drop 2 a ≡ drop 2 b

-- an entry of a buffer; past its end 0
abbrev pub entry : List ℤ → ℕ → ℤ
entry buffer k = get_or buffer k (pos 0)

-- the block and the buffer have what the questions ask for
pub record Decodable (block : List ℕ) (buffer : List ℤ) : Type 0 where
  pub preamble : 8 ≤ length block
  pub index : index_in block ≤ 88
  pub enough : count_in block ≤ 2 * (length block - 8)
  pub room : count_in block ≤ length buffer

-- of every block of bytes, as a lent one is
pub record SoundSentences : Type 0 where
  -- "it accepts all the rest", and "the answer is the count"
  pub accepts : (block : List ℕ) (buffer : List ℤ) → Bytes block → Decodable block buffer → (decode_of block buffer).answer ≡ accepted (count_in block)
  pub accepted_only : (block : List ℕ) (buffer : List ℤ) (n : ℕ) → Bytes block → (decode_of block buffer).answer ≡ accepted n
      → Decodable block buffer × (n ≡ count_in block)
  -- each sample is the level that its nibble leaves; so "The starting level itself is not a sample"
  pub sample : (block : List ℕ) (buffer : List ℤ) (n k : ℕ) → Bytes block → (decode_of block buffer).answer ≡ accepted n → k < n
      → entry (decode_of block buffer).samples k ≡ (after block (suc k)).level
  -- "Samples, held within -32,768 to 32,767"; and the step index stays one of the 89
  pub samples_held : (block : List ℕ) (k : ℕ) → SFits w16 (after block (suc k)).level
  -- and a level that is within is left as it is: up by the rise, or down by it where the nibble has bit 8
  pub goes_up : (nibble : ℕ) (level : ℤ) (index : ℕ) → nibble < 8 → SFits w16 (level +ℤ pos (rise_at index nibble))
      → level_after nibble level index ≡ level +ℤ pos (rise_at index nibble)
  pub goes_down : (nibble : ℕ) (level : ℤ) (index : ℕ) → 8 ≤ nibble → SFits w16 (level -ℤ pos (rise_at index nibble))
      → level_after nibble level index ≡ level -ℤ pos (rise_at index nibble)
  -- "the rule step/8 plus step, step/2 and step/4 by bit": 2 m + 1 eighths of the step, less what three divisions round off
  pub rounded : (step magnitude : ℕ) → magnitude < 8
      → (8 * rise step magnitude ≤ (2 * magnitude + 1) * step) × ((2 * magnitude + 1) * step ≤ 8 * rise step magnitude + 17)
  -- the index goes down by 1, or up by 2, 4, 6 or 8
  pub index_down : (nibble index : ℕ) → index ≤ 88 → nibble % 8 < 4 → index_after nibble index ≡ index - 1
  pub index_up : (nibble index : ℕ) → index ≤ 88 → 4 ≤ nibble % 8 → index_after nibble index ≡ min 88 (index + 2 * (nibble % 8 - 3))
  pub index_held : (block : List ℕ) (k : ℕ) → (after block (suc k)).index ≤ 88
  -- "entries past it stay"
  pub later : (block : List ℕ) (buffer : List ℤ) (n : ℕ) → (decode_of block buffer).answer ≡ accepted n
      → drop n (decode_of block buffer).samples ≡ drop n buffer
  pub same_room : (block : List ℕ) (buffer : List ℤ) → length (decode_of block buffer).samples ≡ length buffer
  -- 01: "`AmvAudioPreamble::parse` 8? 25"
  pub twenty_five : (block : List ℕ) (buffer : List ℤ) (at : ℕ) → (decode_of block buffer).answer ≡ refused (numbered 25 at)
      → (at ≡ 0) × (length block < 8)
  -- "after 25, step index above 88 is 71 at place 2"
  pub seventy_one : (block : List ℕ) (buffer : List ℤ) (at : ℕ) → Bytes block → (decode_of block buffer).answer ≡ refused (numbered 71 at)
      → (at ≡ 2) × (8 ≤ length block) × (88 < index_in block)
  -- "count above twice the bytes after the preamble is 72 at 4"
  pub seventy_two : (block : List ℕ) (buffer : List ℤ) (at : ℕ) → Bytes block → (decode_of block buffer).answer ≡ refused (numbered 72 at)
      → (at ≡ 4) × (8 ≤ length block) × (index_in block ≤ 88) × (2 * (length block - 8) < count_in block)
  -- "a buffer shorter than count is 73 at 0"
  pub seventy_three : (block : List ℕ) (buffer : List ℤ) (at : ℕ) → Bytes block → (decode_of block buffer).answer ≡ refused (numbered 73 at)
      → (at ≡ 0) × (8 ≤ length block) × (index_in block ≤ 88) × (count_in block ≤ 2 * (length block - 8)) × (length buffer < count_in block)
  -- "It returns the state it was given and changes no lent byte", and the numbers that 02 lists
  pub gives_back : (block : List ℕ) → GivesBack (λ buffer. (decode_of block buffer).answer) (λ buffer. (decode_of block buffer).samples)
  pub numbers : (block : List ℕ) (buffer : List ℤ) → RefusedBy (25 ∷ 71 ∷ 72 ∷ 73 ∷ []) (decode_of block buffer).answer

-- "If the starting level alone changes by d, no sample moves by more than d", of what the call leaves: both blocks are answered alike, and no
-- entry of the buffer is further apart than the starting levels, whatever the block, its count and the buffer
pub record StartingLevel : Type 0 where
  pub same_answer : (a b : List ℕ) (buffer : List ℤ) → LevelAlone a b → Bytes a → Bytes b
      → (decode_of a buffer).answer ≡ (decode_of b buffer).answer
  pub near : (a b : List ℕ) (buffer : List ℤ) (k : ℕ) → LevelAlone a b → Bytes a → Bytes b
      → apart (entry (decode_of a buffer).samples k) (entry (decode_of b buffer).samples k) ≤ apart (level_in a) (level_in b)

-- the same of two calls, by their contracts: each has its own buffer, and both are accepted
abbrev pub TwoCalls : Type 0
TwoCalls = (a b : List ℕ) (before before' after after' : List ℤ) (n n' k : ℕ) → LevelAlone a b → Bytes a → Bytes b
    → Decodes a before (Ok n) after → Decodes b before' (Ok n') after'
    → (n ≡ n') × (k < n → apart (entry after k) (entry after' k) ≤ apart (level_in a) (level_in b))
