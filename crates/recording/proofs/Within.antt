-- What ends within a cut: it is a beginning, and which one, by the bytes of the chunks. Assumes nothing.
use mathlib.Core.Path.{◌≡◌, refl, ap, ◌∙◌}
use mathlib.Core.List.{List, [], ◌∷◌}
use Prim.Native.Nat.{ℕ, zero, suc, ◌+◌, ◌≤◌, ◌<◌}
use native.Mathlib.Decide.{dec_le}
use native.Mathlib.Nat.{lt_of_not-le}
use native.Mathlib.Omega.{arith}
use borrow.Author.Tests.{le-leb, lt-leb}
use lib.ListN.{length, take, length-append}
use Rattle.walk.specs.Chunks.{Chunk, chunk_of, chunk_bytes, chunks_bytes}
use Rattle.walk.specs.declared.Kind.TheVariants.{Frame, Sound}
use Rattle.walk.proofs.Chunked.{length-chunk}
use Rattle.recording.specs.Drain.{drain, drain_from}
use Rattle.recording.specs.Cut.{whole_chunk, recorded_part, end_within, survivors}

-- a frame of 3 bytes ends at 327: a cut to 327 bytes leaves its packet, one to 326 does not
at_the_cut : let cs = chunk_of Frame (1 ∷ 2 ∷ 3 ∷ []) ∷ [] in (survivors 327 cs ≡ drain cs) × (survivors 326 cs ≡ [])
unfolding end_within drain_from
at_the_cut = (refl, refl)

-- its record asks for the 8 bytes of its header alone, which end at 324; that of a block of 10 for 8 more, which end at 332
at_the_record : let frame = chunk_of Frame (1 ∷ 2 ∷ 3 ∷ []) ∷ [] in
    let block = chunk_of Sound (0 ∷ 0 ∷ 0 ∷ 0 ∷ 2 ∷ 0 ∷ 0 ∷ 0 ∷ 17 ∷ 34 ∷ []) ∷ [] in
    (end_within {A = ℕ} recorded_part 324 316 frame (1 ∷ []) ≡ 1 ∷ [])
    × (end_within {A = ℕ} recorded_part 323 316 frame (1 ∷ []) ≡ [])
    × (end_within {A = ℕ} recorded_part 332 316 block (1 ∷ []) ≡ 1 ∷ [])
    × (end_within {A = ℕ} recorded_part 331 316 block (1 ∷ []) ≡ [])
unfolding end_within
at_the_record = (refl, refl, refl, refl)

-- a part of a chunk that has its header
pub record Part (part : Chunk → ℕ) : Type 0 where
  pub least : (c : Chunk) → 8 ≤ part c
  pub most : (c : Chunk) → part c ≤ whole_chunk c

pub whole_part : Part whole_chunk
whole_part = record { least = at_least; most = λ c. omega arith }
  where
    at_least : (c : Chunk) → 8 ≤ whole_chunk c
    at_least (chunk_of kind payload) = omega arith

pub recorded_part_lem : Part recorded_part
recorded_part_lem = record { least = at_least; most = at_most }
  where
    at_least : (c : Chunk) → 8 ≤ recorded_part c
    at_least (chunk_of Frame payload) = omega arith
    at_least (chunk_of Sound payload) = omega arith

    at_most : (c : Chunk) → recorded_part c ≤ whole_chunk c
    at_most (chunk_of Frame payload) = omega arith
    at_most (chunk_of Sound payload) = omega arith

module _ {A : Type 0} {part : Chunk → ℕ} (k : Part part) (n : ℕ) where
  -- where no header is left, nothing
  pub none_within : (at : ℕ) (cs : List Chunk) (xs : List A) → n < at + 8 → end_within part n at cs xs ≡ []
  unfolding end_within
  none_within at [] xs l = refl
  none_within at (c ∷ cs) [] l = refl
  none_within at (c ∷ cs) (x ∷ xs) l =
      rw (lt-leb (at + part c) n (omega (arith, k.least c))) (none_within (at + whole_chunk c) cs xs (omega arith))

  module _ (at : ℕ) (c : Chunk) (cs : List Chunk) (x : A) (xs : List A) where
    -- a chunk whose part ends within it is kept; after one whose part does not, nothing is
    pub kept-within : at + part c ≤ n → end_within part n at (c ∷ cs) (x ∷ xs) ≡ x ∷ end_within part n (at + whole_chunk c) cs xs
    unfolding end_within
    kept-within l = rw (le-leb (at + part c) n l)

    pub lost_within : n < at + part c → end_within part n at (c ∷ cs) (x ∷ xs) ≡ []
    unfolding end_within
    lost_within l =
        let m = k.most c in
        rw (lt-leb (at + part c) n l) (none_within (at + whole_chunk c) cs xs (omega arith))

  pub first-within : (at : ℕ) (cs : List Chunk) (xs : List A) → end_within part n at cs xs ≡ take (length (end_within part n at cs xs)) xs
  unfolding end_within
  first-within at [] xs = refl
  first-within at (c ∷ cs) [] = refl
  first-within at (c ∷ cs) (x ∷ xs) =
      elim (dec_le (at + part c) n) [
        | yes l ↦ rw (kept-within at c cs x xs l) (ap (λ (l : List A). x ∷ l) (first-within (at + whole_chunk c) cs xs))
        | no l ↦ rw (lost_within at c cs x xs (lt_of_not-le l))
      ]

-- ---- by the bytes of the chunks

pub length_more : (c : Chunk) (cs : List Chunk) → length (chunks_bytes (c ∷ cs)) ≡ whole_chunk c + length (chunks_bytes cs)
unfolding chunks_bytes
length_more (chunk_of kind payload) cs =
    length-append (chunk_bytes (chunk_of kind payload)) (chunks_bytes cs) ∙ ap (λ (k : ℕ). k + length (chunks_bytes cs)) (length-chunk kind payload)

module _ {A : Type 0} (n : ℕ) where
  -- element number k is kept exactly when as many bytes and one chunk more end within the cut: where the first chunk does, by the rest
  kept-number_on : (at : ℕ) (c : Chunk) (cs : List Chunk) (x : A) (xs : List A) (k : ℕ)
      → (at + whole_chunk c ≤ n
      → (at + length (chunks_bytes (c ∷ take k cs)) ≤ n → k < suc (length (end_within whole_chunk n (at + whole_chunk c) cs xs)))
      × (k < suc (length (end_within whole_chunk n (at + whole_chunk c) cs xs)) → at + length (chunks_bytes (c ∷ take k cs)) ≤ n))
      → (at + length (chunks_bytes (c ∷ take k cs)) ≤ n → k < length (end_within whole_chunk n at (c ∷ cs) (x ∷ xs)))
      × (k < length (end_within whole_chunk n at (c ∷ cs) (x ∷ xs)) → at + length (chunks_bytes (c ∷ take k cs)) ≤ n)
  kept-number_on at c cs x xs k on =
      let s = length_more c (take k cs) in
      elim (dec_le (at + whole_chunk c) n) [
        | yes l ↦ rw (kept-within whole_part n at c cs x xs l) (on l)
        | no l ↦ rw (lost_within whole_part n at c cs x xs (lt_of_not-le l)) ((λ i. omega (arith, lt_of_not-le l)), λ i. absurd (omega arith))
      ]

  pub kept-number : (at : ℕ) (cs : List Chunk) (xs : List A) → length xs ≡ length cs → (k : ℕ) → k < length cs
      → let kept = length (end_within whole_chunk n at cs xs) in
      let end = at + length (chunks_bytes (take (suc k) cs)) in
      (end ≤ n → k < kept) × (k < kept → end ≤ n)
  kept-number at [] xs e k h = absurd (omega arith)
  kept-number at (c ∷ cs) [] e k h = absurd (omega arith)
  kept-number at (c ∷ cs) (x ∷ xs) e zero h =
      let s = length_more c [] in
      let z : length (chunks_bytes []) ≡ 0 = unfold chunks_bytes in refl in
      kept-number_on at c cs x xs zero (λ l. ((λ i. omega arith), λ i. omega arith))
  kept-number at (c ∷ cs) (x ∷ xs) e (suc k) h =
      let s = length_more c (take (suc k) cs) in
      let r = kept-number (at + whole_chunk c) cs xs (omega arith) k (omega arith) in
      kept-number_on at c cs x xs (suc k)
      (λ l. ((λ i. let j = r.0 (omega arith) in omega arith), λ i. let j = r.1 (omega arith) in omega arith))

  -- all of them where all bytes do
  pub all_kept : (at : ℕ) (cs : List Chunk) (xs : List A) → length xs ≡ length cs → at + length (chunks_bytes cs) ≤ n → end_within whole_chunk n at cs xs ≡ xs
  all_kept at [] [] e l = unfold end_within in refl
  all_kept at [] (x ∷ xs) e l = absurd (omega arith)
  all_kept at (c ∷ cs) [] e l = absurd (omega arith)
  all_kept at (c ∷ cs) (x ∷ xs) e l =
      let s = length_more c cs in
      kept-within whole_part n at c cs x xs (omega arith) ∙ ap (λ (l : List A). x ∷ l) (all_kept (at + whole_chunk c) cs xs (omega arith) (omega arith))
