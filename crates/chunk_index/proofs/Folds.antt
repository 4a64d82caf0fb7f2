-- Records, known tags and counts along the walk: what a step of it means for them. Assumes nothing.
use mathlib.Core.Path.{◌≡◌, refl, sym, ap, ◌∙◌}
use mathlib.Core.Bool.{Bool, true, false, cond}
use mathlib.Core.List.{List, [], ◌∷◌}
use Prim.Native.Nat.{ℕ, ◌+◌, ◌<◌, min}
use native.Mathlib.Decide.{dec_le}
use native.Mathlib.Nat.{lt_of_not-le}
use native.Mathlib.Omega.{arith}
use borrow.Author.Tests.{le-leb, lt-leb, eq-eqb, ne_eqb}
use lib.Dec.{leb}
use lib.ListN.{length}
use Rattle.error.specs.Answer.{accepted}
use Rattle.demuxer.specs.Read.{payload_at}
use Rattle.demuxer.specs.declared.position.Position.{Position}
use Rattle.walk.specs.Steps.{past_at}
use Rattle.walk.specs.Walk.{Stop, stop, walk}
use Rattle.walk.specs.declared.ChunkAt.{ChunkAt}
use Rattle.walk.specs.declared.Kind.{Kind}
use Rattle.walk.specs.declared.Kind.TheVariants.{Frame, Sound}
use Rattle.walk.proofs.Walks.{Goes, cut-last, past_is, past-cursor}
use Rattle.chunk_index.specs.Entry.{entry}
use Rattle.chunk_index.specs.Index.{recorded, records, tags_known}
use Rattle.chunk_index.specs.Steps.{recorded_by, recorded_at}
use Rattle.chunk_index.specs.Summary.{counted, counts_from}
use Rattle.chunk_index.specs.declared.summary.ChunkCounts.{ChunkCounts}

-- at least so many bytes of a payload are there where they and what is missing do not make more than its length
there_by : (least there missing size : ℕ) → there + missing ≡ size → leb least there ≡ leb (least + missing) size
there_by least there missing size e =
    elim (dec_le least there) [
      | yes l ↦ le-leb least there l ∙ sym (le-leb (least + missing) size (omega arith))
      | no l ↦
          let m = lt_of_not-le l in
          lt-leb least there m ∙ sym (lt-leb (least + missing) size (omega (arith, m)))
    ]

recorded_by_lem : (kind : Kind) (payload : List ℕ) (missing size : ℕ) → length payload + missing ≡ size
    → recorded kind payload missing ≡ recorded_by kind size missing
recorded_by_lem Frame payload missing size e = refl
recorded_by_lem Sound payload missing size e =
    ap (λ (n : ℕ). leb (min 8 n) (length payload)) e ∙ there_by (min 8 size) (length payload) missing size e

-- a chunk of which nothing is missing gets a record
whole_by : (kind : Kind) (size : ℕ) → recorded_by kind size 0 ≡ true
whole_by Frame size = refl
whole_by Sound size = le-leb (min 8 size + 0) size (omega arith)

pub whole-recorded : (c : ChunkAt) → c.missing ≡ 0 → recorded_at c ≡ true
whole-recorded c m = ap (recorded_by c.kind c.size) m ∙ whole_by c.kind c.size

module _ (file : List ℕ) (at : ℕ) (c : ChunkAt) (g : Goes file at c) where
  -- the code's question is the definition's
  pub recorded-is : recorded c.kind (payload_at file at c.size) c.missing ≡ recorded_at c
  recorded-is = recorded_by_lem c.kind (payload_at file at c.size) c.missing c.size g.size_is

  -- past a chunk with a record the tags go on, and one without ends the walk
  pub known_on : recorded_at c ≡ true → tags_known at (walk file at) ≡ tags_known (at + (8 + c.size)) (walk file (at + (8 + c.size)))
  unfolding tags_known
  known_on r = ap (tags_known at) g.is ∙ rw (recorded-is ∙ r, g.size_is)

  pub known-end : recorded_at c ≡ false → tags_known at (walk file at) ≡ accepted tt
  unfolding tags_known
  known-end r = ap (tags_known at) g.is ∙ rw (recorded-is ∙ r)

  -- so does one that is cut, be it recorded or not
  pub known-cut : 0 < c.missing → tags_known at (walk file at) ≡ accepted tt
  unfolding tags_known
  known-cut m = go (recorded_at c) refl
    where
      go : (b : Bool) → recorded_at c ≡ b → tags_known at (walk file at) ≡ accepted tt
      go true r = known_on r ∙ ap (tags_known (at + (8 + c.size))) (cut-last file at c g m)
      go false r = known-end r

-- counts are the same where both are
pub same_counts : {s t : ChunkCounts} → s.frames ≡ t.frames → s.blocks ≡ t.blocks → s ≡ t
same_counts f b = λ i. record { frames = f i; blocks = b i }

module _ (file : List ℕ) (at : ℕ) (c : ChunkAt) (g : Goes file at c) (s : ChunkCounts) where
  -- past a chunk that is whole the counts go on, with one more; at one that is cut all are counted
  pub counts_whole : c.missing ≡ 0 → counts_from s (walk file at) ≡ counts_from (counted c.kind s) (walk file (at + (8 + c.size)))
  unfolding counts_from
  counts_whole m = ap (counts_from s) g.is ∙ rw (recorded-is file at c g ∙ whole-recorded c m, eq-eqb c.missing 0 m)

  pub counts_cut : 0 < c.missing → counts_from s (walk file at) ≡ s
  unfolding counts_from
  counts_cut m =
      ap (counts_from s) g.is
      ∙ rw (ne_eqb c.missing 0 (λ z. omega arith), cut-last file at c g m) (either (recorded c.kind (payload_at file at c.size) c.missing))
    where
      either : (b : Bool) → cond b s s ≡ s
      either true = refl
      either false = refl

-- a walk that stops makes no record
pub records-stop : (file : List ℕ) (p : Position) {s : Stop} → walk file p.cursor ≡ stop s → records p (walk file p.cursor) ≡ []
unfolding records
records-stop file p w = ap (records p) w

module _ (file : List ℕ) (p : Position) (c : ChunkAt) (g : Goes file p.cursor c) where
  -- and so do the records, from the position after it
  pub records_on : recorded_at c ≡ true
      → records p (walk file p.cursor) ≡ entry c.kind p ∷ records (past_at file p c) (walk file (past_at file p c).cursor)
  unfolding records
  records_on r =
      let n = past-cursor file p c in
      ap (records p) g.is
      ∙ rw (recorded-is file p.cursor c g ∙ r, past_is file p c g)
      (ap (λ (n : ℕ). entry c.kind p ∷ records (past_at file p c) (walk file n)) (sym n))

  pub records-end : recorded_at c ≡ false → records p (walk file p.cursor) ≡ []
  unfolding records
  records-end r = ap (records p) g.is ∙ rw (recorded-is file p.cursor c g ∙ r)
