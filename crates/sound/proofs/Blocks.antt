-- A block and what the call makes of it. The fields that its preamble has are those in its bytes; the call ends in one of five ways, and
-- `block_cases` has an arm for each.
-- Assumes nothing.
use mathlib.Core.Path.{◌≡◌, refl, sym, ap, ◌∙◌}
use mathlib.Core.Bool.{Bool, true, false}
use mathlib.Core.List.{List, [], ◌∷◌, ◌++◌}
use Prim.Native.Nat.{ℕ, suc, ◌+◌, ◌-◌, ◌*◌, ◌%◌, ◌≤◌, ◌<◌}
use native.Mathlib.Omega.{arith}
use borrow.Author.Tests.{leb-true, leb-false}
use lib.Dec.{leb}
use lib.IntN.{ℤ}
use lib.ListN.{length, take, drop, get_or, length-take, length-drop}
use lib.Seq.{get_or-take}
use mir.Syntax.{w16}
use mir.Val.{to_z}
use Rattle.std.proofs.lemmas.Bool.Decides.{nat_tests}
use Rattle.error.specs.Answer.{Answer, accepted, refused, numbered, ask, and_then}
use Rattle.error.specs.declared.Refusal.{Refusal}
use Rattle.error.proofs.Answers.{never, accepted-same}
use Rattle.fields.specs.Le.{le, Bytes}
use Rattle.fields.proofs.Laws.{le-lt, le_split, le_bytes-le}
use Rattle.parse.specs.Preamble.{preamble_of, state_byte}
use Rattle.parse.specs.declared.preamble.AmvAudioPreamble.{AmvAudioPreamble}
use Rattle.sound.specs.Sound.{Decoder, Decoding, block_questions, decoded_from, decode_nibble, decode_nibbles, decode_of, nibbles, sample_questions, samples_of, start_of}
use Rattle.sound.specs.Sentences.{count_in, index_in, level_in, after}

-- the preamble of a block that has one
abbrev pub preamble_in : List ℕ → AmvAudioPreamble
preamble_in block = record { state = le 4 block 0; decoded_sample_count = le 4 block 4 }

-- ---- its fields are those in the bytes

pub level-is : (block : List ℕ) → Bytes block → to_z w16 ((preamble_in block).state % 65536) ≡ level_in block
level-is block b =
    let e : le 4 block 0 ≡ le 2 block 0 + 65536 * le 2 block 2 = le_split 2 2 block 0 in
    let l : le 2 block 0 < 65536 = le-lt 2 block 0 b in
    let m : le 4 block 0 % 65536 ≡ le 2 block 0 = omega arith in
    ap (to_z w16) m

pub index_is : (block : List ℕ) → Bytes block → 8 ≤ length block → state_byte 2 (preamble_in block) ≡ index_in block
unfolding state_byte
index_is block b h =
    ap (λ (l : List ℕ). get_or l 2 0) (le_bytes-le 4 block 0 b (omega arith)) ∙ get_or-take 4 block 2 0 (omega arith)

pub start_is : (block : List ℕ) → Bytes block → 8 ≤ length block → start_of (preamble_in block) ≡ after block 0
unfolding after
start_is block b h = λ i. record { level = level-is block b i; index = index_is block b h i }

-- ---- what the questions 71 to 73 let pass

-- the three facts, of a preamble, the block's length and the buffer's
pub record Asked (p : AmvAudioPreamble) (len room : ℕ) : Type 0 where
  pub index : state_byte 2 p ≤ 88
  pub enough : p.decoded_sample_count ≤ 2 * (len - 8)
  pub fits : p.decoded_sample_count ≤ room

pub asked : (p : AmvAudioPreamble) (len room : ℕ) → sample_questions p len room ≡ accepted tt → Asked p len room
unfolding sample_questions
asked p len room e = record { index = grind (arith, nat_tests); enough = grind (arith, nat_tests); fits = grind (arith, nat_tests) }

-- ---- a block that all questions let pass

pub let_pass : (block : List ℕ) (buffer : List ℤ) (p : AmvAudioPreamble) → preamble_of block ≡ accepted p
    → sample_questions p (length block) (length buffer) ≡ accepted tt
    → decode_of block buffer ≡ record { answer = accepted p.decoded_sample_count; samples = samples_of block p ++ drop p.decoded_sample_count buffer }
unfolding decode_of block_questions
let_pass block buffer p is e = rw (is, e) refl

-- ---- how the call can end

-- what the questions let pass
pub record Passed (block : List ℕ) (room : ℕ) : Type 0 where
  pub preamble : 8 ≤ length block
  pub index : state_byte 2 (preamble_in block) ≤ 88
  pub enough : count_in block ≤ 2 * (length block - 8)
  pub fits : count_in block ≤ room

-- the buffer after a block that was accepted
abbrev pub filled : List ℕ → List ℤ → List ℤ
filled block buffer = samples_of block (preamble_in block) ++ drop (count_in block) buffer

-- a refusal, and the buffer as it was
abbrev kept : List ℤ → ℕ → ℕ → Decoding
kept buffer number place = record { answer = refused (numbered number place); samples = buffer }

-- the call ends in one of five ways: the block has no preamble; it has one and the step index is above 88; the index is not, and the nibbles
-- are too few; they are not, and the buffer is too short; or all is well
module _ (block : List ℕ) (buffer : List ℤ) (P : Decoding → Type 0)
    (cut : length block < 8 → P (kept buffer 25 0))
    (far : 8 ≤ length block → 88 < state_byte 2 (preamble_in block) → P (kept buffer 71 2))
    (few : 8 ≤ length block → state_byte 2 (preamble_in block) ≤ 88 → 2 * (length block - 8) < count_in block → P (kept buffer 72 4))
    (short : 8 ≤ length block → state_byte 2 (preamble_in block) ≤ 88 → count_in block ≤ 2 * (length block - 8) → length buffer < count_in block
    → P (kept buffer 73 0))
    (passes : Passed block (length buffer) → P (record { answer = accepted (count_in block); samples = filled block buffer })) where
  abbrev from : Answer Unit → Decoding
  from x = decoded_from block buffer (and_then x (λ _. accepted (preamble_in block)))

  by_room : 8 ≤ length block → state_byte 2 (preamble_in block) ≤ 88 → count_in block ≤ 2 * (length block - 8) → (t : Bool)
      → leb (count_in block) (length buffer) ≡ t → P (from (ask t 73 0 (accepted tt)))
  by_room h i n true e = passes (record { preamble = h; index = i; enough = n; fits = leb-true _ _ e })
  by_room h i n false e = short h i n (leb-false _ _ e)

  by_count : 8 ≤ length block → state_byte 2 (preamble_in block) ≤ 88 → (t : Bool) → leb (count_in block) (2 * (length block - 8)) ≡ t
      → P (from (ask t 72 4 (ask (leb (count_in block) (length buffer)) 73 0 (accepted tt))))
  by_count h i true e = by_room h i (leb-true _ _ e) _ refl
  by_count h i false e = few h i (leb-false _ _ e)

  by_index : 8 ≤ length block → (t : Bool) → leb (state_byte 2 (preamble_in block)) 88 ≡ t
      → P
      (from
      (ask t 71 2 (ask (leb (count_in block) (2 * (length block - 8))) 72 4 (ask (leb (count_in block) (length buffer)) 73 0 (accepted tt)))))
  by_index h true e = by_count h (leb-true _ _ e) _ refl
  by_index h false e = far h (leb-false _ _ e)

  by_length : (t : Bool) → leb 8 (length block) ≡ t
      → P
      (decoded_from block buffer
      (and_then (ask t 25 0 (accepted (preamble_in block)))
      (λ p. and_then (sample_questions p (length block) (length buffer)) (λ _. accepted p))))
  unfolding sample_questions
  by_length true e = by_index (leb-true _ _ e) _ refl
  by_length false e = cut (leb-false _ _ e)

  pub block_cases : P (decode_of block buffer)
  unfolding decode_of block_questions preamble_of
  block_cases = by_length _ refl

-- ---- a block that was accepted

pub record Accepted (block : List ℕ) (buffer : List ℤ) (n : ℕ) (left : List ℤ) : Type 0 where
  pub passed : Passed block (length buffer)
  pub count : n ≡ count_in block
  pub samples : left ≡ filled block buffer

pub accept : (block : List ℕ) (buffer : List ℤ) (n : ℕ) → (decode_of block buffer).answer ≡ accepted n
    → Accepted block buffer n (decode_of block buffer).samples
accept block buffer n =
    block_cases block buffer (λ (d : Decoding). d.answer ≡ accepted n → Accepted block buffer n d.samples)
    (λ h a. never (sym a))
    (λ h i a. never (sym a))
    (λ h i c a. never (sym a))
    (λ h i c l a. never (sym a))
    (λ p a. record { passed = p; count = sym (accepted-same a); samples = refl })

-- a refusal leaves the buffer as it was
pub gives_back : (block : List ℕ) (buffer : List ℤ) (r : Refusal) → (decode_of block buffer).answer ≡ refused r → (decode_of block buffer).samples ≡ buffer
gives_back block buffer r =
    block_cases block buffer (λ (d : Decoding). d.answer ≡ refused r → d.samples ≡ buffer)
    (λ h a. refl)
    (λ h i a. refl)
    (λ h i c a. refl)
    (λ h i c l a. refl)
    (λ p a. never a)

-- ---- how many samples it has

pub length-nibbles : (bytes : List ℕ) → length (nibbles bytes) ≡ 2 * length bytes
unfolding nibbles
length-nibbles [] = refl
length-nibbles (b ∷ bs) = let ih = length-nibbles bs in omega arith

pub length_decoded : (d : Decoder) (ns : List ℕ) → length (decode_nibbles d ns) ≡ length ns
unfolding decode_nibbles
length_decoded d [] = refl
length_decoded d (n ∷ ns) = ap suc (length_decoded (decode_nibble n d) ns)

-- a block that was accepted has as many nibbles as it counts samples
pub nibbles-enough : (block : List ℕ) (n : ℕ) → n ≤ 2 * (length block - 8) → length (take n (nibbles (drop 8 block))) ≡ n
nibbles-enough block n h =
    let a : length (nibbles (drop 8 block)) ≡ 2 * length (drop 8 block) = length-nibbles (drop 8 block) in
    let c : length (drop 8 block) ≡ length block - 8 = length-drop 8 block in
    length-take n (nibbles (drop 8 block)) ∙ omega arith

pub samples_many : (block : List ℕ) (room : ℕ) → Passed block room → length (samples_of block (preamble_in block)) ≡ count_in block
samples_many block room p =
    length_decoded (start_of (preamble_in block)) (take (count_in block) (nibbles (drop 8 block))) ∙ nibbles-enough block (count_in block) p.enough
