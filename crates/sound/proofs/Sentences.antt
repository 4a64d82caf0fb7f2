-- 02's sentences about a decoded block hold. An accepted block has passed the questions, so it has a nibble for each sample; the decoder that
-- goes along the list of nibbles is, after each, the one that goes by the block's bytes. A refusal is one of four (`block_cases`).
-- Assumes nothing.
use mathlib.Core.Path.{◌≡◌, refl, sym, ap, ◌∙◌}
use mathlib.Core.Bool.{Bool, true, false, cond}
use mathlib.Core.List.{List, [], ◌∷◌}
use Prim.Native.Nat.{ℕ, zero, suc, ◌+◌, ◌-◌, ◌*◌, ◌/◌, ◌%◌, ◌≤◌, ◌<◌, min}
use native.Mathlib.Nat.{add-zero}
use native.Mathlib.Omega.{arith}
use borrow.Author.Tests.{eqb-false}
use lib.Dec.{eqb}
use lib.IntN.{ℤ, pos, ◌+ℤ◌, ◌-ℤ◌}
use lib.ListN.{length, take, drop, get_or, length-append, length-drop, get_or-append}
use lib.Seq.{drop_at, get_or-drop, get_or-take}
use mir.Syntax.{w16}
use mir.Val.{SFits}
use Rattle.std.proofs.lemmas.Int.{ints}
use Rattle.std.proofs.lemmas.Bool.Decides.{nat_tests}
use Rattle.error.specs.Answer.{Answer, accepted, refused, numbered, number_of, place_of}
use Rattle.error.specs.Sentences.{RefusedBy}
use Rattle.error.proofs.Answers.{never}
use Rattle.fields.specs.Le.{Bytes}
use Rattle.sound.specs.Sound.{Decoder, Decoding, decode_nibble, decode_nibbles, decode_of, held_level, index_after, level_after, moved_by}
use Rattle.sound.specs.Sound.{nibbles, rise, samples_of, steps}
use Rattle.sound.specs.Sentences.{Decodable, SoundSentences, after, count_in, entry, index_in, nibble_in, rise_at}
use Rattle.sound.proofs.Blocks.{Passed, accept, block_cases, filled, gives_back, index_is, nibbles-enough, preamble_in, samples_many, start_is}

-- ---- a nibble is the half of a byte

abbrev half : Bool → ℕ → ℕ
half high byte = cond high (byte / 16) (byte % 16)

half_of_none : (high : Bool) → half high 0 ≡ 0
half_of_none true = refl
half_of_none false = refl

nibble_half : (bytes : List ℕ) (k : ℕ) → get_or (nibbles bytes) k 0 ≡ half (eqb (k % 2) 0) (get_or bytes (k / 2) 0)
unfolding nibbles
nibble_half [] k = sym (half_of_none (eqb (k % 2) 0))
nibble_half (b ∷ bs) zero = refl
nibble_half (b ∷ bs) (suc zero) = refl
nibble_half (b ∷ bs) (suc (suc k)) =
    let q : suc (suc k) / 2 ≡ suc (k / 2) = omega arith in
    let r : suc (suc k) % 2 ≡ k % 2 = omega arith in
    nibble_half bs k ∙ rw (q, r)

nibble_is : (block : List ℕ) (k : ℕ) → get_or (nibbles (drop 8 block)) k 0 ≡ nibble_in block k
nibble_is block k = nibble_half (drop 8 block) k ∙ ap (half (eqb (k % 2) 0)) (get_or-drop 8 block (k / 2) 0)

-- ---- the decoder along a list of nibbles, and along the block

-- from nibble j of the block on
along : (block : List ℕ) (ns : List ℕ) (j : ℕ) → ((i : ℕ) → i < length ns → get_or ns i 0 ≡ nibble_in block (j + i)) → (k : ℕ) → k < length ns
    → entry (decode_nibbles (after block j) ns) k ≡ (after block (suc (j + k))).level
unfolding decode_nibbles after
along block [] j same k h = absurd (omega arith)
along block (n ∷ ns) j same zero h =
    let first : n ≡ nibble_in block j = same 0 (omega arith) ∙ ap (nibble_in block) (add-zero j) in
    ap (λ (m : ℕ). (decode_nibble m (after block j)).level) first ∙ ap (λ (m : ℕ). (after block (suc m)).level) (sym (add-zero j))
along block (n ∷ ns) j same (suc k) h =
    let first : n ≡ nibble_in block j = same 0 (omega arith) ∙ ap (nibble_in block) (add-zero j) in
    let next : (i : ℕ) → j + suc i ≡ suc j + i = λ i. omega arith in
    ap (λ (m : ℕ). entry (decode_nibbles (decode_nibble m (after block j)) ns) k) first
    ∙ along block ns (suc j) (λ i l. same (suc i) (omega arith) ∙ ap (nibble_in block) (next i)) k (omega arith)
    ∙ ap (λ (m : ℕ). (after block (suc m)).level) (sym (next k))

-- ---- an accepted block

module _ (block : List ℕ) (buffer : List ℤ) (n : ℕ) (h : (decode_of block buffer).answer ≡ accepted n) where
  abbrev ns : List ℕ
  ns = take (count_in block) (nibbles (drop 8 block))

  abbrev passed : Passed block (length buffer)
  passed = (accept block buffer n h).passed

  count : n ≡ count_in block
  count = (accept block buffer n h).count

  samples : (decode_of block buffer).samples ≡ filled block buffer
  samples = (accept block buffer n h).samples

  accepted_only : Bytes block → Decodable block buffer × (n ≡ count_in block)
  accepted_only b = (
    record {
      preamble = passed.preamble;
      index = rw (index_is block b passed.preamble) at passed.index;
      enough = passed.enough;
      room = passed.fits;
    },
    count,
  )

  sample : (k : ℕ) → Bytes block → k < n → entry (decode_of block buffer).samples k ≡ (after block (suc k)).level
  sample k b l =
      let many : length ns ≡ count_in block = nibbles-enough block (count_in block) passed.enough in
      let all : length (samples_of block (preamble_in block)) ≡ count_in block = samples_many block (length buffer) passed in
      let none : (i : ℕ) → i ≡ 0 + i = λ i. omega arith in
      ap (λ (xs : List ℤ). entry xs k) samples
      ∙ get_or-append (samples_of block (preamble_in block)) (drop (count_in block) buffer) (pos 0) k (omega (arith, count))
      ∙ ap (λ (d : Decoder). entry (decode_nibbles d ns) k) (start_is block b passed.preamble)
      ∙ along block ns 0
      (λ i m.
      get_or-take (count_in block) (nibbles (drop 8 block)) i 0 (omega arith) ∙ nibble_is block i ∙ ap (nibble_in block) (none i))
      k (omega (arith, count))
      ∙ ap (λ (m : ℕ). (after block (suc m)).level) (sym (none k))

  later : drop n (decode_of block buffer).samples ≡ drop n buffer
  later =
      ap (drop n) samples
      ∙ drop_at (samples_of block (preamble_in block)) (drop (count_in block) buffer) n (samples_many block (length buffer) passed ∙ sym count)
      ∙ ap (λ (m : ℕ). drop m buffer) (sym count)

accepts : (block : List ℕ) (buffer : List ℤ) → Bytes block → Decodable block buffer → (decode_of block buffer).answer ≡ accepted (count_in block)
accepts block buffer b d =
    block_cases block buffer (λ (x : Decoding). x.answer ≡ accepted (count_in block))
    (λ h. absurd (omega (arith, d.preamble)))
    (λ h i. absurd (omega (arith, d.index, index_is block b h)))
    (λ h i c. absurd (omega (arith, d.enough)))
    (λ h i c l. absurd (omega (arith, d.room)))
    (λ p. refl)

same_room : (block : List ℕ) (buffer : List ℤ) → length (decode_of block buffer).samples ≡ length buffer
same_room block buffer =
    block_cases block buffer (λ (d : Decoding). length d.samples ≡ length buffer)
    (λ h. refl)
    (λ h i. refl)
    (λ h i c. refl)
    (λ h i c l. refl)
    (λ p.
    length-append (samples_of block (preamble_in block)) (drop (count_in block) buffer)
    ∙ omega (arith, samples_many block (length buffer) p, length-drop (count_in block) buffer, p.fits))

-- ---- what is held

fits : (z : ℤ) → SFits w16 (held_level z)
fits z = record { sfits = grind (arith, ints, nat_tests) }

level-held : (nibble : ℕ) (level : ℤ) (index : ℕ) → SFits w16 (level_after nibble level index)
unfolding level_after
level-held nibble level index = fits (moved_by nibble level (rise (get_or steps index 0) (nibble % 8)))

goes_up : (nibble : ℕ) (level : ℤ) (index : ℕ) → nibble < 8 → SFits w16 (level +ℤ pos (rise_at index nibble))
    → level_after nibble level index ≡ level +ℤ pos (rise_at index nibble)
unfolding level_after
goes_up nibble level index h f = grind (arith, ints, nat_tests)

goes_down : (nibble : ℕ) (level : ℤ) (index : ℕ) → 8 ≤ nibble → SFits w16 (level -ℤ pos (rise_at index nibble))
    → level_after nibble level index ≡ level -ℤ pos (rise_at index nibble)
unfolding level_after
goes_down nibble level index h f = grind (arith, ints, nat_tests)

-- magnitude by magnitude
rounded : (step magnitude : ℕ) → magnitude < 8
    → (8 * rise step magnitude ≤ (2 * magnitude + 1) * step) × ((2 * magnitude + 1) * step ≤ 8 * rise step magnitude + 17)
rounded step zero h = (omega arith, omega arith)
rounded step (suc zero) h = (omega arith, omega arith)
rounded step (suc (suc zero)) h = (omega arith, omega arith)
rounded step (suc (suc (suc zero))) h = (omega arith, omega arith)
rounded step (suc (suc (suc (suc zero)))) h = (omega arith, omega arith)
rounded step (suc (suc (suc (suc (suc zero))))) h = (omega arith, omega arith)
rounded step (suc (suc (suc (suc (suc (suc zero)))))) h = (omega arith, omega arith)
rounded step (suc (suc (suc (suc (suc (suc (suc zero))))))) h = (omega arith, omega arith)
rounded step (suc (suc (suc (suc (suc (suc (suc (suc m)))))))) h = absurd (omega arith)

index_down : (nibble index : ℕ) → index ≤ 88 → nibble % 8 < 4 → index_after nibble index ≡ index - 1
unfolding index_after
index_down nibble index h l = grind (arith, ints, nat_tests)

index_up : (nibble index : ℕ) → index ≤ 88 → 4 ≤ nibble % 8 → index_after nibble index ≡ min 88 (index + 2 * (nibble % 8 - 3))
unfolding index_after
index_up nibble index h l = grind (arith, ints, nat_tests)

index_held : (nibble index : ℕ) → index_after nibble index ≤ 88
unfolding index_after
index_held nibble index = grind (arith, ints, nat_tests)

-- ---- a refusal

-- two numbers that differ are those of two refusals
differ : {B : Type 0} {m n i j : ℕ} → ◌≡◌ {A = Answer ℕ} (refused (numbered m i)) (refused (numbered n j)) → eqb m n ≡ false → B
differ {B} {m} {n} {i} {j} e f = absurd (eqb-false m n f (ap {A = Answer ℕ} number_of e))

place : {n i j : ℕ} → ◌≡◌ {A = Answer ℕ} (refused (numbered n i)) (refused (numbered n j)) → j ≡ i
place e = sym (ap {A = Answer ℕ} place_of e)

module _ (block : List ℕ) (buffer : List ℤ) where
  twenty_five : (at : ℕ) → (decode_of block buffer).answer ≡ refused (numbered 25 at) → (at ≡ 0) × (length block < 8)
  twenty_five at =
      block_cases block buffer (λ (d : Decoding). d.answer ≡ refused (numbered 25 at) → (at ≡ 0) × (length block < 8))
      (λ h a. (place a, h))
      (λ h i a. differ a refl)
      (λ h i c a. differ a refl)
      (λ h i c l a. differ a refl)
      (λ p a. never a)

  seventy_one : (at : ℕ) → Bytes block → (decode_of block buffer).answer ≡ refused (numbered 71 at)
      → (at ≡ 2) × (8 ≤ length block) × (88 < index_in block)
  seventy_one at b =
      block_cases block buffer
      (λ (d : Decoding). d.answer ≡ refused (numbered 71 at) → (at ≡ 2) × (8 ≤ length block) × (88 < index_in block))
      (λ h a. differ a refl)
      (λ h i a. (place a, h, rw (index_is block b h) at i))
      (λ h i c a. differ a refl)
      (λ h i c l a. differ a refl)
      (λ p a. never a)

  seventy_two : (at : ℕ) → Bytes block → (decode_of block buffer).answer ≡ refused (numbered 72 at)
      → (at ≡ 4) × (8 ≤ length block) × (index_in block ≤ 88) × (2 * (length block - 8) < count_in block)
  seventy_two at b =
      block_cases block buffer
      (λ (d : Decoding). d.answer ≡ refused (numbered 72 at)
      → (at ≡ 4) × (8 ≤ length block) × (index_in block ≤ 88) × (2 * (length block - 8) < count_in block))
      (λ h a. differ a refl)
      (λ h i a. differ a refl)
      (λ h i c a. (place a, h, rw (index_is block b h) at i, c))
      (λ h i c l a. differ a refl)
      (λ p a. never a)

  seventy_three : (at : ℕ) → Bytes block → (decode_of block buffer).answer ≡ refused (numbered 73 at)
      → (at ≡ 0) × (8 ≤ length block) × (index_in block ≤ 88) × (count_in block ≤ 2 * (length block - 8)) × (length buffer < count_in block)
  seventy_three at b =
      block_cases block buffer
      (λ (d : Decoding). d.answer ≡ refused (numbered 73 at)
      → (at ≡ 0) × (8 ≤ length block) × (index_in block ≤ 88) × (count_in block ≤ 2 * (length block - 8)) × (length buffer < count_in block))
      (λ h a. differ a refl)
      (λ h i a. differ a refl)
      (λ h i c a. differ a refl)
      (λ h i c l a. (place a, h, rw (index_is block b h) at i, c, l))
      (λ p a. never a)

  numbers : RefusedBy (25 ∷ 71 ∷ 72 ∷ 73 ∷ []) (decode_of block buffer).answer
  numbers =
      block_cases block buffer (λ (d : Decoding). RefusedBy (25 ∷ 71 ∷ 72 ∷ 73 ∷ []) d.answer)
      (λ h. refl)
      (λ h i. refl)
      (λ h i c. refl)
      (λ h i c l. refl)
      (λ p. tt)

pub sound_sentences : SoundSentences
unfolding after
sound_sentences =
    record {
      accepts = accepts;
      accepted_only = λ block buffer n b h. accepted_only block buffer n h b;
      sample = λ block buffer n k b h l. sample block buffer n h k b l;
      samples_held = λ block k. level-held (nibble_in block k) (after block k).level (after block k).index;
      goes_up = goes_up;
      goes_down = goes_down;
      rounded = rounded;
      index_down = index_down;
      index_up = index_up;
      index_held = λ block k. index_held (nibble_in block k) (after block k).index;
      later = later;
      same_room = same_room;
      twenty_five = twenty_five;
      seventy_one = seventy_one;
      seventy_two = seventy_two;
      seventy_three = seventy_three;
      gives_back = gives_back;
      numbers = numbers;
    }
