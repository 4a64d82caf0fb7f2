-- The first p bytes of a file that is refused with 31 at p have an index. By induction along the walk: every chunk before p ends at p or before,
-- so it is the same in the first p bytes, and there the walk runs out at p; the records of that walk are the same. Assumes nothing.
use mathlib.Core.Path.{◌≡◌, refl, sym, ap, ◌∙◌}
use mathlib.Core.Bool.{Bool, true, false, cond}
use mathlib.Core.List.{List, [], ◌∷◌}
use Prim.Native.Nat.{ℕ, ◌+◌, ◌≤◌}
use native.Mathlib.Omega.{arith}
use borrow.Author.Tests.{le-leb, leb-true}
use lib.ListN.{length, take}
use lib.Seq.{length-take-le}
use Rattle.fields.specs.File.{file_limit, within_limit}
use Rattle.error.specs.Answer.{Answer, accepted, refused, numbered, ask, and_then, number_of, place_of}
use Rattle.error.proofs.Answers.{never}
use Rattle.prelude.specs.Layout.{prelude_len}
use Rattle.demuxer.specs.Position.{start}
use Rattle.demuxer.specs.Read.{payload_at}
use Rattle.demuxer.specs.declared.position.Position.{Position}
use Rattle.walk.specs.Steps.{past_at}
use Rattle.walk.specs.Walk.{step_at, ran_out, Walk, stop, chunk, walk, file_walk, past}
use Rattle.walk.specs.declared.ChunkAt.{ChunkAt}
use Rattle.walk.specs.declared.Step.{Step}
use Rattle.walk.specs.declared.Step.TheVariants as step
use Rattle.walk.proofs.Taken.{payload-take, step-take}
use Rattle.walk.proofs.Walks.{Goes, step_means, step_out, past-cursor, along, unknown-there}
use Rattle.chunk_index.specs.Damaged.{BeforeUnknownTag}
use Rattle.chunk_index.specs.Entry.{entry}
use Rattle.chunk_index.specs.Index.{recorded, records, tags_known, index_of}
use Rattle.chunk_index.specs.Steps.{recorded_at}
use Rattle.chunk_index.specs.declared.entry.ChunkIndexEntry.{ChunkIndexEntry}
use Rattle.chunk_index.proofs.Folds.{known_on, known-end}

-- a walk, but that it runs out where it stopped: it makes the same records, and all its tags are known
unfoldable pub out_of : Walk → Walk
out_of (stop s) = stop ran_out
out_of (chunk kind payload missing rest) = chunk kind payload missing (out_of rest)

records_out : (p : Position) (w : Walk) → records p (out_of w) ≡ records p w
unfolding out_of records
records_out p (stop s) = refl
records_out p (chunk kind payload missing rest) =
    ap (λ (es : List ChunkIndexEntry). cond (recorded kind payload missing) (entry kind p ∷ es) []) (records_out (past p kind payload missing) rest)

known_out : (at : ℕ) (w : Walk) → tags_known at (out_of w) ≡ accepted tt
unfolding out_of tags_known
known_out at (stop s) = refl
known_out at (chunk kind payload missing rest) = on (recorded kind payload missing) (known_out (at + (8 + (length payload + missing))) rest)
  where
    on : (t : Bool) {x : Answer Unit} → x ≡ accepted tt → cond t x (accepted tt) ≡ accepted tt
    on true e = e
    on false e = refl

-- what holds at each position before p
record Before (file : List ℕ) (p : ℕ) (q : Position) : Type 0 where
  ahead : q.cursor ≤ p
  inside : p ≤ length file
  is : walk (take p file) q.cursor ≡ out_of (walk file q.cursor)

module _ (file : List ℕ) (p : ℕ) where
  -- at p itself
  at_p : (q : Position) → q.cursor ≡ p → step_at file q.cursor ≡ step.UnknownTag → Before file p q
  unfolding out_of
  at_p q e u =
      let there = unknown-there file q.cursor u in
      record {
        ahead = omega arith;
        inside = omega arith;
        is =
            step_means (take p file) q.cursor step.RanOut
            (step_out (take p file) q.cursor (let t = length-take-le p file (omega arith) in omega arith))
            ∙ sym (ap out_of (step_means file q.cursor step.UnknownTag u));
      }

  -- past a chunk that ends before p
  past-chunk : (q : Position) (c : ChunkAt) → step_at file q.cursor ≡ step.Chunk c → Goes file q.cursor c
      → Before file p (past_at file q c) → Before file p q
  unfolding out_of
  past-chunk q c e g b =
      let n = past-cursor file q c in
      let a = b.ahead in
      let g' = step_means (take p file) q.cursor (step.Chunk c) (step-take p file q.cursor b.inside c e (omega arith)) in
      record {
        ahead = omega arith;
        inside = b.inside;
        is =
            g'.is
            ∙ ap (λ (xs : List ℕ). chunk c.kind xs c.missing (walk (take p file) (q.cursor + (8 + c.size))))
            (payload-take p file q.cursor b.inside c.size (omega arith))
            ∙ ap (chunk c.kind (payload_at file q.cursor c.size) c.missing)
            (ap (walk (take p file)) (sym n) ∙ b.is ∙ ap (λ (at : ℕ). out_of (walk file at)) n)
            ∙ sym (ap out_of g.is);
      }

  -- by what stands at a position; a chunk leaves the rest of the walk
  by_step : (q : Position) → tags_known q.cursor (walk file q.cursor) ≡ refused (numbered 31 p)
      → ((c : ChunkAt) → Goes file q.cursor c → tags_known (past_at file q c).cursor (walk file (past_at file q c).cursor) ≡ refused (numbered 31 p)
      → Before file p (past_at file q c)) → Before file p q
  unfolding tags_known
  by_step q u later = on (step_at file q.cursor) refl
    where
      chunks : (c : ChunkAt) → step_at file q.cursor ≡ step.Chunk c → Goes file q.cursor c → (b : Bool) → recorded_at c ≡ b → Before file p q
      chunks c e g true r =
          past-chunk q c e g
          (later c g (ap (λ (at : ℕ). tags_known at (walk file at)) (past-cursor file q c) ∙ sym (known_on file q.cursor c g r) ∙ u))
      chunks c e g false r = never (sym (known-end file q.cursor c g r) ∙ u)

      on : (x : Step) → step_at file q.cursor ≡ x → Before file p q
      on step.RanOut e = never (sym (ap (tags_known q.cursor) (step_means file q.cursor step.RanOut e)) ∙ u)
      on step.Trailer e = never (sym (ap (tags_known q.cursor) (step_means file q.cursor step.Trailer e).is) ∙ u)
      on step.UnknownTag e =
          let same = sym (ap (tags_known q.cursor) (step_means file q.cursor step.UnknownTag e)) ∙ u in
          at_p q (ap place_of same) e
      on (step.Chunk c) e = let g = step_means file q.cursor (step.Chunk c) e in chunks c e g (recorded_at c) refl

  before : (q : Position) → tags_known q.cursor (walk file q.cursor) ≡ refused (numbered 31 p) → Before file p q
  before =
      along file (λ q. tags_known q.cursor (walk file q.cursor) ≡ refused (numbered 31 p) → Before file p q)
      (λ q later u. by_step q u later)

-- 31 is not 10, and comes from a tag
asked : (file : List ℕ) (p : ℕ) (b : Bool) → within_limit file ≡ b → (x : Answer Unit)
    → ask b 10 0 (and_then x (λ _. accepted (records start (file_walk file)))) ≡ refused (numbered 31 p)
    → (length file ≤ file_limit) × (x ≡ refused (numbered 31 p))
asked file p false l x e = let n : ◌≡◌ {A = ℕ} 10 31 = ap number_of e in absurd (omega arith)
asked file p true l (accepted u) e = never e
asked file p true l (refused r) e = (leb-true (length file) file_limit l, ap refused cc)

-- so the walk over the first p bytes is the file's, but that it runs out at p
pub record UpTo (file : List ℕ) (p : ℕ) : Type 0 where
  pub within : length (take p file) ≤ file_limit
  pub unknown : tags_known prelude_len (file_walk file) ≡ refused (numbered 31 p)
  pub is : file_walk (take p file) ≡ out_of (file_walk file)

pub up_to : (file : List ℕ) (p : ℕ) → index_of file ≡ refused (numbered 31 p) → UpTo file p
unfolding index_of
up_to file p e =
    let a = asked file p (within_limit file) refl (tags_known prelude_len (file_walk file)) e in
    let l = a.0 in
    let b = before file p start a.1 in
    record {
      within = let t = length-take-le p file b.inside in let i = b.inside in omega arith;
      unknown = a.1;
      is = b.is;
    }

pub before-unknown-tag : BeforeUnknownTag
unfolding index_of
before-unknown-tag file p e =
    let u = up_to file p e in
    rw (le-leb (length (take p file)) file_limit u.within, u.is, known_out prelude_len (file_walk file), records_out start (file_walk file))
