-- "If the starting level alone changes by d, no sample moves by more than d". Two levels that one nibble moves by one rise stay as far apart,
-- and holding brings them no further apart; a nibble moves two decoders of one step index to one step index again. So it goes from nibble to
-- nibble. Two blocks that differ in the starting level alone are answered alike and have the same nibbles.
-- Assumes nothing.
use mathlib.Core.Path.{◌≡◌, refl, sym, ap, ◌∙◌}
use mathlib.Core.List.{List, [], ◌∷◌, ◌++◌}
use Prim.Native.Nat.{ℕ, zero, suc, ◌+◌, ◌-◌, ◌*◌, ◌%◌, ◌≤◌}
use native.Mathlib.Omega.{arith}
use lib.Dec.{leb}
use lib.IntN.{ℤ, nat_abs, +ℤ_invr}
use lib.ListN.{length, take, drop, get_or}
use lib.Seq.{get_or-drop, drop-drop}
use Rattle.std.proofs.lemmas.Int.{ints}
use Rattle.std.proofs.lemmas.Bool.Decides.{nat_tests}
use Rattle.error.specs.Answer.{Answer, accepted, refused, ask}
use Rattle.fields.specs.Le.{le, Bytes}
use Rattle.fields.proofs.Laws.{le-drop}
use Rattle.fields.proofs.Impossible.{impossible}
use Rattle.sound.specs.Sound.{Decoding, decode_nibbles, decode_of, held_level, index_after, level_after, moved_by, nibbles, rise, start_of, steps}
use Rattle.sound.specs.Sentences.{LevelAlone, StartingLevel, TwoCalls, apart, count_in, entry, index_in, level_in}
use Rattle.sound.proofs.Blocks.{Passed, accept, block_cases, filled, gives_back, index_is, level-is, nibbles-enough, preamble_in}

-- ---- one nibble

-- two levels, moved alike, are as far apart
moved-near : (nibble : ℕ) (x y : ℤ) (by : ℕ) → apart (moved_by nibble x by) (moved_by nibble y by) ≤ apart x y
moved-near nibble x y by = grind (arith, ints, nat_tests)

-- and holding brings them no further apart
held-near : (x y : ℤ) → apart (held_level x) (held_level y) ≤ apart x y
held-near x y = grind (arith, ints, nat_tests)

-- ---- one nibble after another

level-near : (nibble : ℕ) (x y : ℤ) (index : ℕ) → apart (level_after nibble x index) (level_after nibble y index) ≤ apart x y
unfolding level_after
level-near nibble x y index =
    let by = rise (get_or steps index 0) (nibble % 8) in
    omega (arith, held-near (moved_by nibble x by) (moved_by nibble y by), moved-near nibble x y by)

-- equal levels are 0 apart
same-near : (x y : ℤ) (d : ℕ) → x ≡ y → apart x y ≤ d
same-near x y d e =
    let z : apart x y ≡ 0 = ap (λ (u : ℤ). apart x u) (sym e) ∙ ap nat_abs (+ℤ_invr x) in
    omega arith

-- two decoders of one step index and the same nibbles, and what stands after the samples: an entry there is to be the same
decoded_near : (ns : List ℕ) (x y : ℤ) (index : ℕ) (rest rest' : List ℤ) (k : ℕ)
    → ((j : ℕ) → length ns + j ≡ k → entry rest j ≡ entry rest' j)
    → apart
    (entry (decode_nibbles (record { level = x; index = index }) ns ++ rest) k)
    (entry (decode_nibbles (record { level = y; index = index }) ns ++ rest') k)
    ≤ apart x y
unfolding decode_nibbles
decoded_near [] x y index rest rest' k same = same-near (entry rest k) (entry rest' k) (apart x y) (same k (omega arith))
decoded_near (n ∷ ns) x y index rest rest' zero same = level-near n x y index
decoded_near (n ∷ ns) x y index rest rest' (suc k) same =
    let ih = decoded_near ns (level_after n x index) (level_after n y index) (index_after n index) rest rest' k (λ j e. same j (omega arith)) in
    omega (arith, ih, level-near n x y index)

-- ---- two blocks

module _ (a b : List ℕ) (alone : LevelAlone a b) where
  same_index : index_in a ≡ index_in b
  same_index = sym (get_or-drop 2 a 0 0) ∙ ap (λ (l : List ℕ). get_or l 0 0) alone.same_rest ∙ get_or-drop 2 b 0 0

  same_count : count_in a ≡ count_in b
  same_count = sym (le-drop 4 2 a 2) ∙ ap (λ (l : List ℕ). le 4 l 2) alone.same_rest ∙ le-drop 4 2 b 2

  same_bytes : drop 8 a ≡ drop 8 b
  same_bytes = sym (drop-drop 6 2 a) ∙ ap (drop 6) alone.same_rest ∙ drop-drop 6 2 b

-- the answer, by the block's length, the index byte, the count, and the buffer's length
abbrev answer_by : ℕ → ℕ → ℕ → ℕ → Answer ℕ
answer_by len index count room =
    ask (leb 8 len) 25 0 (ask (leb index 88) 71 2 (ask (leb count (2 * (len - 8))) 72 4 (ask (leb count room) 73 0 (accepted count))))

answer-is : (block : List ℕ) (buffer : List ℤ) → Bytes block
    → (decode_of block buffer).answer ≡ answer_by (length block) (index_in block) (count_in block) (length buffer)
answer-is block buffer bytes =
    block_cases block buffer (λ (d : Decoding). d.answer ≡ answer_by (length block) (index_in block) (count_in block) (length buffer))
    (λ h. grind (arith, nat_tests))
    (λ h i. grind (arith, nat_tests, index_is block bytes h))
    (λ h i c. grind (arith, nat_tests, index_is block bytes h))
    (λ h i c l. grind (arith, nat_tests, index_is block bytes h))
    (λ p. grind (arith, nat_tests, index_is block bytes p.preamble))

same_answer : (a b : List ℕ) (buffer : List ℤ) → LevelAlone a b → Bytes a → Bytes b → (decode_of a buffer).answer ≡ (decode_of b buffer).answer
same_answer a b buffer alone u v =
    answer-is a buffer u
    ∙ ap (λ (len : ℕ). answer_by len (index_in a) (count_in a) (length buffer)) alone.same_length
    ∙ ap (λ (index : ℕ). answer_by (length b) index (count_in a) (length buffer)) (same_index a b alone)
    ∙ ap (λ (count : ℕ). answer_by (length b) (index_in b) count (length buffer)) (same_count a b alone)
    ∙ sym (answer-is b buffer v)

-- two blocks that were accepted
module _ (a b : List ℕ) (alone : LevelAlone a b) (u : Bytes a) (v : Bytes b) (buffer buffer' : List ℤ) (passed : Passed a (length buffer))
    (passed' : Passed b (length buffer')) where
  same-nibbles : take (count_in b) (nibbles (drop 8 b)) ≡ take (count_in a) (nibbles (drop 8 a))
  same-nibbles =
      ap (λ (n : ℕ). take n (nibbles (drop 8 b))) (sym (same_count a b alone))
      ∙ ap (λ (l : List ℕ). take (count_in a) (nibbles l)) (sym (same_bytes a b alone))

  -- the decoder of the one block, and that of the other
  start : start_of (preamble_in a) ≡ record { level = level_in a; index = index_in a }
  start = λ i. record { level = level-is a u i; index = index_is a u passed.preamble i }

  start' : start_of (preamble_in b) ≡ record { level = level_in b; index = index_in a }
  start' = λ i. record { level = level-is b v i; index = (index_is b v passed'.preamble ∙ sym (same_index a b alone)) i }

  filled-near : (k : ℕ) → ((j : ℕ) → count_in a + j ≡ k → entry (drop (count_in a) buffer) j ≡ entry (drop (count_in b) buffer') j)
      → apart (entry (filled a buffer) k) (entry (filled b buffer') k) ≤ apart (level_in a) (level_in b)
  filled-near k same =
      let many : length (take (count_in a) (nibbles (drop 8 a))) ≡ count_in a = nibbles-enough a (count_in a) passed.enough in
      rw (start, start', same-nibbles)
      (decoded_near (take (count_in a) (nibbles (drop 8 a))) (level_in a) (level_in b) (index_in a) (drop (count_in a) buffer) (drop (count_in b) buffer') k
      (λ j e. same j (omega arith)))

near : (a b : List ℕ) (buffer : List ℤ) (k : ℕ) → LevelAlone a b → Bytes a → Bytes b
    → apart (entry (decode_of a buffer).samples k) (entry (decode_of b buffer).samples k) ≤ apart (level_in a) (level_in b)
near a b buffer k alone u v = go (decode_of a buffer).answer refl
  where
    go : (x : Answer ℕ) → (decode_of a buffer).answer ≡ x
        → apart (entry (decode_of a buffer).samples k) (entry (decode_of b buffer).samples k) ≤ apart (level_in a) (level_in b)
    go (accepted n) h =
        let p = accept a buffer n h in
        let q = accept b buffer n (sym (same_answer a b buffer alone u v) ∙ h) in
        rw (p.samples, q.samples)
        (filled-near a b alone u v buffer buffer p.passed q.passed k
        (λ j e. ap (λ (n : ℕ). entry (drop n buffer) j) (same_count a b alone)))
    go (refused r) h =
        rw (gives_back a buffer r h, gives_back b buffer r (sym (same_answer a b buffer alone u v) ∙ h))
        (same-near (entry buffer k) (entry buffer k) (apart (level_in a) (level_in b)) refl)

pub starting_level : StartingLevel
starting_level = record { same_answer = same_answer; near = near }

pub two-calls : TwoCalls
two-calls a b before before' after after' n n' k alone u v d d' =
    let p = accept a before n (sym d.answer) in
    let q = accept b before' n' (sym d'.answer) in (
      p.count ∙ same_count a b alone ∙ sym q.count,
      λ l.
          rw (d.samples ∙ p.samples, d'.samples ∙ q.samples)
          (filled-near a b alone u v before before' p.passed q.passed k (λ j e. impossible (omega (arith, p.count)))),
    )
