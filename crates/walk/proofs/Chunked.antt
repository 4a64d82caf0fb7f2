-- The walk over the bytes of chunks and a trailer finds those chunks. Assumes nothing.
use mathlib.Core.Path.{◌≡◌, refl, ap, ◌∙◌}
use mathlib.Core.Bool.{false}
use mathlib.Core.List.{List, [], ◌∷◌, ◌++◌, append_assoc}
use Prim.Native.Nat.{ℕ, ◌+◌, ◌-◌, ◌^◌, ◌≤◌, ◌<◌}
use native.Mathlib.Omega.{arith}
use lib.ListN.{length, length-append}
use Rattle.chunk.specs.Chunk.{trailer_bytes, payload_limit}
use Rattle.fields.specs.Le.{le_bytes}
use Rattle.demuxer.specs.Head.{is_trailer, chunk_head, trailer_tag, trailer_size, head_at}
use Rattle.demuxer.specs.Read.{payload_at}
use Rattle.demuxer.specs.declared.head.Head.{Head}
use Rattle.demuxer.specs.declared.head.Head.TheVariants as head
use Rattle.demuxer.proofs.Suffixes.{chunk_suffix, trailer_suffix, payload_suffix}
use Rattle.walk.specs.Chunks.{Chunk, chunk_of, chunk_bytes, chunks_bytes, Lengths, walk_of}
use Rattle.walk.specs.Walk.{kind_tag, trailer, stop, chunk, chunk_at, on_head, step_at, walk}
use Rattle.walk.specs.declared.Kind.{Kind}
use Rattle.walk.specs.declared.Kind.TheVariants.{Frame, Sound}
use Rattle.walk.specs.declared.Step.TheVariants as step
use Rattle.walk.proofs.Walks.{step_means}

-- the header of a kind, and the step past it
abbrev pub head_of : Kind → ℕ → Head
head_of Frame size = head.Video size
head_of Sound size = head.Audio size

pub tag-held : (kind : Kind) → kind_tag kind < 256 ^ 4
tag-held Frame = omega arith
tag-held Sound = omega arith

tag_head : (kind : Kind) (size : ℕ) → chunk_head (kind_tag kind) size ≡ head_of kind size
tag_head Frame size = refl
tag_head Sound size = refl

pub tag-no-trailer : (kind : Kind) (size : ℕ) → is_trailer (kind_tag kind) size ≡ false
tag-no-trailer Frame size = refl
tag-no-trailer Sound size = refl

pub on_head_lem : (file : List ℕ) (at : ℕ) (kind : Kind) (size : ℕ) → on_head file at (head_of kind size) ≡ step.Chunk (chunk_at file at kind size)
on_head_lem file at Frame size = refl
on_head_lem file at Sound size = refl

-- how many bytes a chunk takes
pub length-chunk : (kind : Kind) (payload : List ℕ) → length (chunk_bytes (chunk_of kind payload)) ≡ 8 + length payload
unfolding chunk_bytes le_bytes
length-chunk kind payload = omega arith

-- the walk past a chunk whose header and payload stand at an offset
pub walked_past_chunk : (file : List ℕ) (at : ℕ) (kind : Kind) (payload : List ℕ) → head_at file at ≡ head_of kind (length payload)
    → payload_at file at (length payload) ≡ payload → walk file at ≡ chunk kind payload 0 (walk file (at + (8 + length payload)))
unfolding step_at
walked_past_chunk file at kind payload e p =
    let n : ℕ = length payload in
    let m : n - n ≡ 0 = omega arith in
    let g = step_means file at (step.Chunk (chunk_at file at kind n)) (ap (on_head file at) e ∙ on_head_lem file at kind n) in
    g.is
    ∙ ap (λ (l : List ℕ). chunk kind l (n - length l) (walk file (at + (8 + n)))) p
    ∙ ap (λ (k : ℕ). chunk kind payload k (walk file (at + (8 + n)))) m

-- a chunk after xs and before ys: its header
pub chunk_head_lem : (xs ys payload : List ℕ) (kind : Kind) → length payload ≤ payload_limit
    → head_at (xs ++ (le_bytes 4 (kind_tag kind) ++ (le_bytes 4 (length payload) ++ (payload ++ ys)))) (length xs) ≡ head_of kind (length payload)
chunk_head_lem xs ys payload kind h =
    let n : ℕ = length payload in
    chunk_suffix xs (payload ++ ys) (kind_tag kind) n (tag-held kind) (omega arith) (tag-no-trailer kind n) ∙ tag_head kind n

-- and the walk past it
chunk_walked : (xs ys payload : List ℕ) (kind : Kind) → length payload ≤ payload_limit
    → walk (xs ++ (le_bytes 4 (kind_tag kind) ++ (le_bytes 4 (length payload) ++ (payload ++ ys)))) (length xs)
    ≡ chunk kind payload 0
    (walk (xs ++ (le_bytes 4 (kind_tag kind) ++ (le_bytes 4 (length payload) ++ (payload ++ ys)))) (length xs + (8 + length payload)))
chunk_walked xs ys payload kind h =
    walked_past_chunk _ (length xs) kind payload (chunk_head_lem xs ys payload kind h) (payload_suffix xs payload ys (kind_tag kind) (length payload))

trailer_walked : (xs ys : List ℕ) → walk (xs ++ (trailer_bytes ++ ys)) (length xs) ≡ stop (trailer (length ys))
unfolding step_at le_bytes
trailer_walked xs ys =
    let file : List ℕ = xs ++ ((le_bytes 4 trailer_tag ++ le_bytes 4 trailer_size) ++ ys) in
    let e : head_at file (length xs) ≡ head.Trailer =
    rw append_assoc (trailer_suffix xs ys trailer_tag trailer_size (omega arith) (omega arith) refl) in
    let n : length file - (length xs + 8) ≡ length ys = unfold le_bytes in simp length-append (omega arith) in
    (step_means file (length xs) step.Trailer (ap (on_head file (length xs)) e)).is ∙ ap (λ (k : ℕ). stop (trailer k)) n

pub chunks_walked : (xs : List ℕ) (cs : List Chunk) (ys : List ℕ) → Lengths cs
    → walk (xs ++ (chunks_bytes cs ++ (trailer_bytes ++ ys))) (length xs) ≡ walk_of cs (length ys)
unfolding chunks_bytes chunk_bytes walk_of
chunks_walked xs [] ys l = trailer_walked xs ys
chunks_walked xs (chunk_of kind payload ∷ cs) ys l =
    let head : List ℕ = le_bytes 4 (kind_tag kind) ++ (le_bytes 4 (length payload) ++ payload) in
    let rest : List ℕ = chunks_bytes cs ++ (trailer_bytes ++ ys) in
    let a : xs ++ ((head ++ chunks_bytes cs) ++ (trailer_bytes ++ ys))
    ≡ xs ++ (le_bytes 4 (kind_tag kind) ++ (le_bytes 4 (length payload) ++ (payload ++ rest))) = simp append_assoc in
    let b : xs ++ (le_bytes 4 (kind_tag kind) ++ (le_bytes 4 (length payload) ++ (payload ++ rest))) ≡ (xs ++ head) ++ rest = simp append_assoc in
    let n : length xs + (8 + length payload) ≡ length (xs ++ head) = unfold le_bytes in simp length-append (omega arith) in
    ap (λ (f : List ℕ). walk f (length xs)) a
    ∙ chunk_walked xs rest payload kind l.0
    ∙ ap (chunk kind payload 0) ((λ i. walk (b i) (n i)) ∙ chunks_walked (xs ++ head) cs ys l.1)
