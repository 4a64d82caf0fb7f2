-- The first n bytes of a file: what stands in them as a whole is what stands there in the file. Fields are read from bytes that both have, so
-- header, payload and step are the same. Assumes nothing.
use mathlib.Core.Path.{◌≡◌, refl, sym, ap, ◌∙◌}
use mathlib.Core.List.{List}
use Prim.Native.Nat.{ℕ, ◌+◌, ◌-◌, ◌≤◌}
use native.Mathlib.Omega.{arith}
use borrow.Author.Tests.{le-leb}
use lib.ListN.{length, take, drop, take-append-drop, length-drop}
use lib.Seq.{length-take-le, drop-append-le, take-append-le}
use Rattle.fields.proofs.Impossible.{impossible}
use Rattle.fields.proofs.Laws.{le-take}
use Rattle.demuxer.specs.Head.{head_at}
use Rattle.demuxer.specs.Read.{payload_at}
use Rattle.demuxer.specs.declared.head.Head.{Head}
use Rattle.demuxer.specs.declared.head.Head.TheVariants as head
use Rattle.walk.specs.Walk.{chunk_at, on_head, step_at}
use Rattle.walk.specs.declared.ChunkAt.{ChunkAt}
use Rattle.walk.specs.declared.Kind.{Kind}
use Rattle.walk.specs.declared.Kind.TheVariants.{Frame, Sound}
use Rattle.walk.specs.declared.Step.{Step}
use Rattle.walk.specs.declared.Step.TheVariants as step

module _ (n : ℕ) (file : List ℕ) (at : ℕ) (l : n ≤ length file) where
  -- a header
  pub head_take : at + 8 ≤ n → head_at (take n file) at ≡ head_at file at
  unfolding head_at
  head_take h =
      let t = length-take-le n file l in
      rw (le-leb (at + 8) (length (take n file)) (omega arith), le-leb (at + 8) (length file) (omega arith))
      (rw (le-take 4 n file at (omega arith), le-take 4 n file (at + 4) (omega arith)))

  -- a payload
  pub payload-take : (size : ℕ) → at + 8 + size ≤ n → payload_at (take n file) at size ≡ payload_at file at size
  payload-take size h =
      let t = length-take-le n file l in
      sym
      (ap (λ (xs : List ℕ). payload_at xs at size) (sym (take-append-drop n file))
      ∙ ap (take size) (drop-append-le (at + 8) (take n file) (drop n file) (omega arith))
      ∙ take-append-le size (drop (at + 8) (take n file)) (drop n file) (simp length-drop (omega arith)))

  -- a chunk of a kind and a length
  chunk-take : (kind : Kind) (size : ℕ) → at + 8 + size ≤ n → chunk_at (take n file) at kind size ≡ chunk_at file at kind size
  chunk-take kind size h = ap (λ (xs : List ℕ). record { kind = kind; size = size; missing = size - length xs }) (payload-take size h)

  -- a step past one
  pub step-take : (c : ChunkAt) → step_at file at ≡ step.Chunk c → at + 8 + c.size ≤ n → step_at (take n file) at ≡ step.Chunk c
  unfolding step_at
  step-take c e h = on (head_at file at) refl
    where
      chunks : (kind : Kind) (size : ℕ) (k : Head) → head_at file at ≡ k → on_head file at k ≡ step.Chunk (chunk_at file at kind size)
          → on_head (take n file) at k ≡ step.Chunk (chunk_at (take n file) at kind size) → on_head (take n file) at (head_at (take n file) at) ≡ step.Chunk c
      chunks kind size k f is taken =
          let same : ◌≡◌ {A = Step} (step.Chunk (chunk_at file at kind size)) (step.Chunk c) = sym (ap (on_head file at) f ∙ is) ∙ e in
          let s : size ≡ c.size = cc in
          ap (on_head (take n file) at) (head_take (omega arith) ∙ f) ∙ taken ∙ ap step.Chunk (chunk-take kind size (omega arith)) ∙ same

      on : (k : Head) → head_at file at ≡ k → on_head (take n file) at (head_at (take n file) at) ≡ step.Chunk c
      on head.Short f = impossible cc
      on head.Trailer f = impossible cc
      on head.Unknown f = impossible cc
      on (head.Video size) f = chunks Frame size (head.Video size) f refl refl
      on (head.Audio size) f = chunks Sound size (head.Audio size) f refl refl
