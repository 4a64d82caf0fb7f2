-- A sound block decoded: IMA ADPCM by the IMA's Recommended Practices, in the layout of an AMV block. Document 02, M-101. Levels and samples
-- are signed numbers. Assumes nothing.
use Rattle.std.specs.Prelude.{◌≡◌, ℕ, ◌+◌, ◌*◌, ◌-◌, ◌/◌, ◌%◌, cond, List, [], ◌∷◌, ◌++◌, leb, ltb, ℤ, pos, negsuc, nat_abs, ◌+ℤ◌, ◌-ℤ◌, length, take, drop, get_or}
use Rattle.std.specs.Prelude.{Result, Ok, Err}
use Rattle.error.specs.declared.AmvError.{AmvError}
use Rattle.std.specs.Int.Signed.{lt_z}
use Rattle.std.specs.Int.{w16}
use Rattle.std.proofs.Common.{to_z}
use Rattle.error.specs.Answer.{Answer, accepted, refused, ask, and_then}
use Rattle.error.specs.Refusal.{refusal_of, said}
use Rattle.parse.specs.Preamble.{preamble_of, state_byte}
use Rattle.parse.specs.declared.preamble.AmvAudioPreamble.{AmvAudioPreamble}

-- 02: "Recommended Practices, 89 steps"
unfoldable pub steps : List ℕ
steps =
    7 ∷ 8 ∷ 9 ∷ 10 ∷ 11 ∷ 12 ∷ 13 ∷ 14 ∷ 16 ∷ 17 ∷ 19 ∷ 21 ∷ 23 ∷ 25 ∷ 28 ∷
    31 ∷ 34 ∷ 37 ∷ 41 ∷ 45 ∷ 50 ∷ 55 ∷ 60 ∷ 66 ∷ 73 ∷ 80 ∷ 88 ∷ 97 ∷ 107 ∷ 118 ∷
    130 ∷ 143 ∷ 157 ∷ 173 ∷ 190 ∷ 209 ∷ 230 ∷ 253 ∷ 279 ∷ 307 ∷ 337 ∷ 371 ∷ 408 ∷ 449 ∷ 494 ∷
    544 ∷ 598 ∷ 658 ∷ 724 ∷ 796 ∷ 876 ∷ 963 ∷ 1060 ∷ 1166 ∷ 1282 ∷ 1411 ∷ 1552 ∷ 1707 ∷ 1878 ∷ 2066 ∷
    2272 ∷ 2499 ∷ 2749 ∷ 3024 ∷ 3327 ∷ 3660 ∷ 4026 ∷ 4428 ∷ 4871 ∷ 5358 ∷ 5894 ∷ 6484 ∷ 7132 ∷ 7845 ∷ 8630 ∷
    9493 ∷ 10442 ∷ 11487 ∷ 12635 ∷ 13899 ∷ 15289 ∷ 16818 ∷ 18500 ∷ 20350 ∷ 22385 ∷ 24623 ∷ 27086 ∷ 29794 ∷ 32767 ∷ []

-- "the rule step/8 plus step, step/2 and step/4 by bit", each division rounded down by itself: bit 4 of the magnitude adds the step, bit 2
-- its half, bit 1 its quarter
abbrev pub rise : ℕ → ℕ → ℕ
rise step magnitude = step / 8 + magnitude / 4 % 2 * step + magnitude / 2 % 2 * (step / 2) + magnitude % 2 * (step / 4)

-- how the step index moves, by the low three bits of a nibble
abbrev pub moves : List ℤ
moves = negsuc 0 ∷ negsuc 0 ∷ negsuc 0 ∷ negsuc 0 ∷ pos 2 ∷ pos 4 ∷ pos 6 ∷ pos 8 ∷ []

-- a number, held within two others
abbrev pub held : ℤ → ℤ → ℤ → ℤ
held least most z = cond (lt_z z least) least (cond (lt_z most z) most z)

-- "held within -32,768 to 32,767"
abbrev pub held_level : ℤ → ℤ
held_level level = held (negsuc 32767) (pos 32767) level

-- up by a rise, or down where the nibble has bit 8
abbrev pub moved_by : ℕ → ℤ → ℕ → ℤ
moved_by nibble level by = cond (ltb nibble 8) (level +ℤ pos by) (level -ℤ pos by)

-- the level after a nibble: the rise is that of its low three bits
unfoldable pub level_after : ℕ → ℤ → ℕ → ℤ
level_after nibble level index = held_level (moved_by nibble level (rise (get_or steps index 0) (nibble % 8)))

-- the step index after a nibble, held within 0 to 88
unfoldable pub index_after : ℕ → ℕ → ℕ
index_after nibble index = nat_abs (held (pos 0) (pos 88) (pos index +ℤ get_or moves (nibble % 8) (pos 0)))

-- what a decoder goes by
pub record Decoder : Type 0 where
  pub level : ℤ
  pub index : ℕ

-- one nibble: the rise is by the step index as it was
abbrev pub decode_nibble : ℕ → Decoder → Decoder
decode_nibble nibble d = record { level = level_after nibble d.level d.index; index = index_after nibble d.index }

-- a sample for each nibble, the level that it leaves; "The starting level itself is not a sample"
unfoldable pub decode_nibbles : Decoder → List ℕ → List ℤ
decode_nibbles d [] = []
decode_nibbles d (n ∷ ns) = (decode_nibble n d).level ∷ decode_nibbles (decode_nibble n d) ns

-- "then nibbles, the high one first"
unfoldable pub nibbles : List ℕ → List ℕ
nibbles [] = []
nibbles (b ∷ bs) = b / 16 ∷ b % 16 ∷ nibbles bs

-- "signed 16-bit starting level, step index byte"
abbrev pub start_of : AmvAudioPreamble → Decoder
start_of p = record { level = to_z w16 (p.state % 65536); index = state_byte 2 p }

-- the samples of a block, as many as its count says
abbrev pub samples_of : List ℕ → AmvAudioPreamble → List ℤ
samples_of block p = decode_nibbles (start_of p) (take p.decoded_sample_count (nibbles (drop 8 block)))

-- "step index above 88 is 71 at place 2; count above twice the bytes after the preamble is 72 at 4; a buffer shorter than count is 73 at 0"
unfoldable pub sample_questions : AmvAudioPreamble → ℕ → ℕ → Answer Unit
sample_questions p len room =
    ask (leb (state_byte 2 p) 88) 71 2
    (ask (leb p.decoded_sample_count (2 * (len - 8))) 72 4
    (ask (leb p.decoded_sample_count room) 73 0 (accepted tt)))

-- "after 25"
unfoldable pub block_questions : List ℕ → ℕ → Answer AmvAudioPreamble
block_questions block room = and_then (preamble_of block) (λ p. and_then (sample_questions p (length block) room) (λ _. accepted p))

-- what the call answers, and the buffer as it leaves it
pub record Decoding : Type 0 where
  pub answer : Answer ℕ
  pub samples : List ℤ

-- "Samples .. go to a lent buffer of signed 16-bit numbers; the answer is the count, and entries past it stay"
abbrev pub decoded_from : List ℕ → List ℤ → Answer AmvAudioPreamble → Decoding
decoded_from block buffer (accepted p) =
    record {
      answer = accepted p.decoded_sample_count;
      samples = samples_of block p ++ drop p.decoded_sample_count buffer;
    }
decoded_from block buffer (refused r) = record { answer = refused r; samples = buffer }

-- 02's decoding of a block into a lent buffer
unfoldable pub decode_of : List ℕ → List ℤ → Decoding
decode_of block buffer = decoded_from block buffer (block_questions block (length buffer))

-- the contract of the call: a block, the buffer before, the result, and the buffer after
pub record Decodes (block : List ℕ) (before : List ℤ) (result : Result ℕ AmvError) (after : List ℤ) : Type 0 where
  pub answer : said result ≡ (decode_of block before).answer
  pub samples : after ≡ (decode_of block before).samples
