-- The walk over the first n bytes of chunks and a trailer, fewer than all: past the chunks that end within them, and at most into one more. Assumes
-- nothing.
use mathlib.Core.Path.{◌≡◌, sym, ap, ◌∙◌, subst}
use mathlib.Core.List.{List, [], ◌∷◌, ◌++◌, append_assoc}
use Prim.Native.Nat.{ℕ, ◌+◌, ◌≤◌, ◌<◌}
use native.Mathlib.Decide.{dec_le}
use native.Mathlib.Nat.{lt_of_not-le}
use native.Mathlib.Omega.{arith}
use lib.ListN.{length, take, length-append, length-take, length-drop}
use lib.Seq.{length-take-le}
use Rattle.chunk.specs.Chunk.{trailer_bytes, payload_limit}
use Rattle.fields.specs.Le.{le_bytes}
use Rattle.demuxer.specs.Head.{head_at}
use Rattle.demuxer.specs.Read.{payload_at}
use Rattle.demuxer.proofs.Suffixes.{payload_suffix}
use Rattle.walk.specs.Chunks.{Chunk, chunk_of, chunk_bytes, chunks_bytes, Lengths}
use Rattle.walk.specs.Walk.{kind_tag, ran_out, Walk, stop, chunk, chunk_at, on_head, step_at, walk}
use Rattle.walk.specs.declared.Kind.{Kind}
use Rattle.walk.specs.declared.Step.TheVariants as step
use Rattle.walk.proofs.Walks.{Goes, step_means, step_out, cut-last}
use Rattle.walk.proofs.Chunked.{head_of, on_head_lem, length-chunk, walked_past_chunk, chunk_head_lem}
use Rattle.walk.proofs.Taken.{head_take, payload-take}

-- a walk over the first n bytes, with these chunks from an offset on
pub data CutWalk (n : ℕ) : ℕ → List Chunk → Walk → Type 0 where
  -- no header is left
  few : {at : ℕ} {cs : List Chunk} → n < at + 8 → CutWalk n at cs (stop ran_out)
  -- a header and a part of its payload
  inside : {at : ℕ} {kind : Kind} {payload part : List ℕ} {missing : ℕ} {cs : List Chunk} → at + 8 + length part ≡ n
      → length part + missing ≡ length payload → 0 < missing → CutWalk n at (chunk_of kind payload ∷ cs) (chunk kind part missing (stop ran_out))
  -- a whole chunk, and what is left after it
  whole : {at : ℕ} {kind : Kind} {payload : List ℕ} {cs : List Chunk} {rest : Walk} → at + (8 + length payload) ≤ n
      → CutWalk n (at + (8 + length payload)) cs rest → CutWalk n at (chunk_of kind payload ∷ cs) (chunk kind payload 0 rest)

module _ (n : ℕ) (file : List ℕ) (short : n < length file) where
  there : length (take n file) ≡ n
  there = length-take-le n file (omega arith)

  runs_out : (at : ℕ) → n < at + 8 → walk (take n file) at ≡ stop ran_out
  runs_out at h = let t = there in step_means (take n file) at step.RanOut (step_out (take n file) at (omega arith))

  -- a chunk of the file
  module _ (xs ys payload : List ℕ) (kind : Kind) (held : length payload ≤ payload_limit) (is : file ≡ xs ++ (chunk_bytes (chunk_of kind payload) ++ ys)) where
    spelt : file ≡ xs ++ (le_bytes 4 (kind_tag kind) ++ (le_bytes 4 (length payload) ++ (payload ++ ys)))
    unfolding chunk_bytes
    spelt = is ∙ simp append_assoc

    -- its header, where that is there
    headed : length xs + 8 ≤ n → head_at (take n file) (length xs) ≡ head_of kind (length payload)
    headed h =
        head_take n file (length xs) (omega arith) h ∙ ap (λ (f : List ℕ). head_at f (length xs)) spelt ∙ chunk_head_lem xs ys payload kind held

    -- all of it
    whole_walked : length xs + (8 + length payload) ≤ n
        → walk (take n file) (length xs) ≡ chunk kind payload 0 (walk (take n file) (length xs + (8 + length payload)))
    whole_walked h =
        walked_past_chunk (take n file) (length xs) kind payload (headed (omega arith))
        (payload-take n file (length xs) (omega arith) (length payload) (omega arith)
        ∙ ap (λ (f : List ℕ). payload_at f (length xs) (length payload)) spelt
        ∙ payload_suffix xs payload ys (kind_tag kind) (length payload))

    -- a part of it
    part_walked : (cs : List Chunk) → length xs + 8 ≤ n → n < length xs + (8 + length payload)
        → CutWalk n (length xs) (chunk_of kind payload ∷ cs) (walk (take n file) (length xs))
    unfolding step_at
    part_walked cs h out =
        let c = chunk_at (take n file) (length xs) kind (length payload) in
        let g : Goes (take n file) (length xs) c =
        step_means (take n file) (length xs) (step.Chunk c)
        (ap (on_head (take n file) (length xs)) (headed h) ∙ on_head_lem (take n file) (length xs) kind (length payload)) in
        let t = there in
        let m : length xs + 8 + length (payload_at (take n file) (length xs) (length payload)) ≡ n = simp (length-take, length-drop) (omega arith) in
        let s = g.size_is in
        let z : 0 < c.missing = omega arith in
        rw (g.is ∙ ap (chunk kind (payload_at (take n file) (length xs) (length payload)) c.missing) (cut-last (take n file) (length xs) c g z))
        (inside m s z)

    -- as far as it goes, where the rest is known
    chunk-cut : (cs : List Chunk) → CutWalk n (length xs + (8 + length payload)) cs (walk (take n file) (length xs + (8 + length payload)))
        → CutWalk n (length xs) (chunk_of kind payload ∷ cs) (walk (take n file) (length xs))
    chunk-cut cs later =
        elim (dec_le (length xs + (8 + length payload)) n) [
          | yes h ↦ rw (whole_walked h) (whole h later)
          | no h ↦
              elim (dec_le (length xs + 8) n) [
                | yes k ↦ part_walked cs k (lt_of_not-le h)
                | no k ↦ rw (runs_out (length xs) (lt_of_not-le k)) (few (lt_of_not-le k))
              ]
        ]

  pub cut_walked : (xs : List ℕ) (cs : List Chunk) → Lengths cs → file ≡ xs ++ (chunks_bytes cs ++ trailer_bytes)
      → CutWalk n (length xs) cs (walk (take n file) (length xs))
  unfolding chunks_bytes
  cut_walked xs [] l is =
      let e : length file ≡ length xs + 8 = ap length is ∙ length-append xs trailer_bytes in
      let h : n < length xs + 8 = omega arith in
      rw (runs_out (length xs) h) (few h)
  cut_walked xs (chunk_of kind payload ∷ cs) l is =
      let bytes : List ℕ = chunk_bytes (chunk_of kind payload) in
      let ys : List ℕ = chunks_bytes cs ++ trailer_bytes in
      let f : file ≡ xs ++ (bytes ++ ys) = is ∙ ap (λ (l : List ℕ). xs ++ l) (append_assoc bytes (chunks_bytes cs) trailer_bytes) in
      let e : length (xs ++ bytes) ≡ length xs + (8 + length payload) =
      length-append xs bytes ∙ ap (λ (k : ℕ). length xs + k) (length-chunk kind payload) in
      chunk-cut xs ys payload kind l.0 f cs
      (subst (λ (k : ℕ). CutWalk n k cs (walk (take n file) k)) e (cut_walked (xs ++ bytes) cs l.1 (f ∙ sym (append_assoc xs bytes ys))))
