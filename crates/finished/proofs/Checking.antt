-- The check's loop: what is left to check, and to pair, is the whole of it. Assumes nothing.
use mathlib.Core.Path.{◌≡◌, refl, sym, ap, ap₂, ◌∙◌}
use mathlib.Core.Bool.{Bool, true, false, ◌&&◌}
use mathlib.Core.List.{List}
use Prim.Native.Nat.{ℕ, suc, ◌+◌}
use native.Mathlib.Numerals.{add-one}
use borrow.Author.Tests.{eq-eqb, ne_eqb}
use Rattle.chunk.specs.Chunk.{kind_of}
use Rattle.chunk.specs.Interleave.{interleave_at, interleave_from, even}
use Rattle.error.specs.Answer.{Answer, accepted, refused, numbered, ask, and_then}
use Rattle.fields.specs.File.{within_limit}
use Rattle.demuxer.specs.Position.{start}
use Rattle.demuxer.specs.declared.position.Position.{Position}
use Rattle.prelude.specs.Prelude.{parse_of, strict_of}
use Rattle.walk.specs.Steps.{Walked, past_at}
use Rattle.walk.specs.Walk.{kind_tag, Stop, Walk, stop, walk}
use Rattle.walk.specs.declared.ChunkAt.{ChunkAt}
use Rattle.walk.proofs.Walked.{walked_start}
use Rattle.walk.proofs.Walks.{Goes, past_is, past-cursor, chunks_before, one_more}
use Rattle.finished.specs.Check.{passes, tags_of, check_stop, check_from, all_paired, check_chunks, check_of}

pub record Checking (file : List ℕ) (p : Position) (paired : Bool) : Type 0 where
  pub walked : Walked p
  pub rest : check_from p (all_paired file) (walk file p.cursor) ≡ check_chunks file
  pub pairs : all_paired file ≡ (paired && passes (interleave_from (chunks_before p) (tags_of (walk file p.cursor))))

pub check-start : (file : List ℕ) → Checking file start true
check-start file = record { walked = walked_start; rest = refl; pairs = refl }

passed : (b : Bool) (number place : ℕ) → passes (ask b number place (accepted tt)) ≡ b
passed true number place = refl
passed false number place = refl

-- one chunk more is paired
one_paired : (paired : Bool) (x rest : Answer Unit) → (paired && passes (and_then x (λ _. rest))) ≡ ((paired && passes x) && passes rest)
one_paired true (accepted u) rest = refl
one_paired true (refused r) rest = refl
one_paired false x rest = refl

module _ {file : List ℕ} {p : Position} {paired : Bool} (k : Checking file p paired) where
  -- the verdict where the walk stops
  pub check-stopped : {s : Stop} → walk file p.cursor ≡ stop s → check_stop p (paired && even (chunks_before p)) s ≡ check_chunks file
  unfolding check_from tags_of interleave_from
  check-stopped {s} w =
      let last : all_paired file ≡ (paired && even (chunks_before p)) =
      k.pairs
      ∙ ap (λ (x : Walk). paired && passes (interleave_from (chunks_before p) (tags_of x))) w
      ∙ ap (λ (b : Bool). paired && b) (passed (even (chunks_before p)) 65 _) in
      ap (λ (b : Bool). check_stop p b s) (sym last) ∙ sym (ap (check_from p (all_paired file)) w) ∙ k.rest

  module _ {c : ChunkAt} (g : Goes file p.cursor c) where
    -- at a cut payload
    pub check-cut : (c.missing ≡ 0 → ⊥) → refused (numbered 60 p.cursor) ≡ check_chunks file
    unfolding check_from
    check-cut m = sym (ap (check_from p (all_paired file)) g.is ∙ rw (ne_eqb _ _ m)) ∙ k.rest

    -- and past a whole one
    pub check_on : c.missing ≡ 0 → Walked (past_at file p c)
        → Checking file (past_at file p c) (paired && passes (interleave_at (kind_of (kind_tag c.kind)) (chunks_before p)))
    unfolding check_from tags_of interleave_from
    check_on m v =
        let q : Position = past_at file p c in
        let n : chunks_before q ≡ chunks_before p + 1 = one_more file p c in
        let w : walk file q.cursor ≡ walk file (p.cursor + (8 + c.size)) = ap (walk file) (past-cursor file p c) in
        let x : Answer Unit = interleave_at (kind_of (kind_tag c.kind)) (chunks_before p) in
        record {
          walked = v;
          rest =
              ap₂ (λ (r : Position) (y : Walk). check_from r (all_paired file) y) (sym (past_is file p c g)) w
              ∙ sym (ap (check_from p (all_paired file)) g.is ∙ rw (eq-eqb _ _ m))
              ∙ k.rest;
          pairs =
              k.pairs
              ∙ ap (λ (y : Walk). paired && passes (interleave_from (chunks_before p) (tags_of y))) g.is
              ∙ one_paired paired x (interleave_from (suc (chunks_before p)) (tags_of (walk file (p.cursor + (8 + c.size)))))
              ∙ ap₂ (λ (i : ℕ) (y : Walk). (paired && passes x) && passes (interleave_from i (tags_of y))) (sym (n ∙ add-one (chunks_before p))) (sym w);
        }

-- ---- after the prelude

-- the check of a file over the limit, which the strict parse asks first
pub check_limit : (file : List ℕ) → within_limit file ≡ false → check_of file ≡ refused (numbered 10 0)
unfolding check_of strict_of parse_of
check_limit file e = rw e
