-- The summary by the records: it counts those whose chunks the file has whole, and the last record's alone may be cut. By induction along the
-- walk, which a chunk that is cut ends. Assumes nothing.
use mathlib.Core.Path.{◌≡◌, refl, sym, ap, ◌∙◌, subst}
use mathlib.Core.Bool.{Bool, true, false}
use mathlib.Core.List.{List, [], ◌∷◌}
use Prim.Native.Nat.{ℕ, zero, suc, ◌+◌, ◌<◌}
use native.Mathlib.Nat.{add-zero, zero-add}
use native.Mathlib.Omega.{arith}
use borrow.Author.Tests.{le-leb, lt-leb}
use lib.ListN.{length}
use Rattle.chunk.specs.Chunk.{video_tag, audio_tag}
use Rattle.error.specs.Answer.{Answer, accepted, refused, ask, and_then}
use Rattle.error.proofs.Answers.{accepted-same, then-accepted, ask-passed}
use Rattle.fields.specs.File.{within_limit}
use Rattle.prelude.specs.Layout.{prelude_len}
use Rattle.demuxer.specs.Position.{start}
use Rattle.demuxer.specs.declared.position.Position.{Position}
use Rattle.walk.specs.Steps.{past_at}
use Rattle.walk.specs.Walk.{Stop, stop, step_at, walk, file_walk}
use Rattle.walk.specs.declared.ChunkAt.{ChunkAt}
use Rattle.walk.specs.declared.Kind.{Kind}
use Rattle.walk.specs.declared.Kind.TheVariants.{Frame, Sound}
use Rattle.walk.specs.declared.Step.{Step}
use Rattle.walk.specs.declared.Step.TheVariants as step
use Rattle.walk.proofs.Walks.{Goes, step_means, whole-inside, cut_outside, cut-last, past-cursor, along}
use Rattle.chunk_index.specs.Entry.{entry}
use Rattle.chunk_index.specs.Index.{records, tags_known, index_of}
use Rattle.chunk_index.specs.Sentences.{tagged, record_counts, whole_in, whole_ones, last_cut}
use Rattle.chunk_index.specs.Steps.{recorded_at}
use Rattle.chunk_index.specs.Summary.{none_counted, counted, counts_from, summary_of}
use Rattle.chunk_index.specs.declared.entry.ChunkIndexEntry.{ChunkIndexEntry}
use Rattle.chunk_index.specs.declared.summary.ChunkCounts.{ChunkCounts}
use Rattle.chunk_index.proofs.Folds.{whole-recorded, same_counts, counts_whole, counts_cut, records_on, records-end, records-stop}

-- counts on top of those of records
abbrev on_top : ChunkCounts → List ChunkIndexEntry → ChunkCounts
on_top s es = record { frames = s.frames + tagged video_tag es; blocks = s.blocks + tagged audio_tag es }

-- what is claimed of counts t on top of s, and of records
record Summed (file : List ℕ) (s t : ChunkCounts) (es : List ChunkIndexEntry) : Type 0 where
  counts_are : t ≡ on_top s (whole_ones file es)
  length-is : length es ≡ tagged video_tag (whole_ones file es) + tagged audio_tag (whole_ones file es) + last_cut file es

-- no record
none : (file : List ℕ) (s : ChunkCounts) → Summed file s s []
unfolding whole_ones tagged last_cut
none file s =
    record {
      counts_are = same_counts (sym (add-zero s.frames)) (sym (add-zero s.blocks));
      length-is = refl;
    }

-- a last record whose chunk is cut
one-cut : (file : List ℕ) (s : ChunkCounts) (e : ChunkIndexEntry) → whole_in file e ≡ false → Summed file s s (e ∷ [])
unfolding whole_ones tagged last_cut
one-cut file s e c =
    record {
      counts_are = rw c (same_counts (sym (add-zero s.frames)) (sym (add-zero s.blocks)));
      length-is = rw c;
    }

-- a record in front whose chunk is whole
last-later : (file : List ℕ) (e : ChunkIndexEntry) (es : List ChunkIndexEntry) → whole_in file e ≡ true → last_cut file (e ∷ es) ≡ last_cut file es
unfolding last_cut
last-later file e [] w = rw w
last-later file e (f ∷ es) w = refl

one-whole : (file : List ℕ) (s t : ChunkCounts) (kind : Kind) (p : Position) (es : List ChunkIndexEntry) → whole_in file (entry kind p) ≡ true
    → Summed file (counted kind s) t es → Summed file s t (entry kind p ∷ es)
unfolding whole_ones tagged
one-whole file s t Frame p es w r =
    let l = last-later file (entry Frame p) es w in
    record {
      counts_are = r.counts_are ∙ rw w (same_counts (omega arith) refl);
      length-is = rw (w, l) (omega (arith, r.length-is));
    }
one-whole file s t Sound p es w r =
    let l = last-later file (entry Sound p) es w in
    record {
      counts_are = r.counts_are ∙ rw w (same_counts refl (omega arith));
      length-is = rw (w, l) (omega (arith, r.length-is));
    }

-- what the summary counts and the index records from a position on
Sums : List ℕ → ChunkCounts → Position → Type 0
Sums file s p = Summed file s (counts_from s (walk file p.cursor)) (records p (walk file p.cursor))

module _ (file : List ℕ) (s : ChunkCounts) (p : Position) where
  at-stop : {e : Stop} → walk file p.cursor ≡ stop e → Sums file s p
  unfolding Sums counts_from
  at-stop w = rw (ap (counts_from s) w, records-stop file p w) (none file s)

  at-whole : (c : ChunkAt) → Goes file p.cursor c → c.missing ≡ 0 → Sums file (counted c.kind s) (past_at file p c) → Sums file s p
  unfolding Sums
  at-whole c g m later =
      let w : whole_in file (entry c.kind p) ≡ true =
      rw g.size-at (le-leb (p.cursor + 8 + c.size) (length file) (whole-inside file p.cursor c g m)) in
      rw (
        counts_whole file p.cursor c g s m ∙ ap (λ (n : ℕ). counts_from (counted c.kind s) (walk file n)) (sym (past-cursor file p c)),
        records_on file p c g (whole-recorded c m),
      )
      (one-whole file s _ c.kind p _ w later)

  at_cut : (c : ChunkAt) → Goes file p.cursor c → 0 < c.missing → (b : Bool) → recorded_at c ≡ b → Sums file s p
  unfolding Sums
  at_cut c g m false r = rw (counts_cut file p.cursor c g s m, records-end file p c g r) (none file s)
  at_cut c g m true r =
      let w : whole_in file (entry c.kind p) ≡ false =
      rw g.size-at (lt-leb (p.cursor + 8 + c.size) (length file) (cut_outside file p.cursor c g m)) in
      let n = ap (walk file) (past-cursor file p c) ∙ cut-last file p.cursor c g m in
      let last : records p (walk file p.cursor) ≡ entry c.kind p ∷ [] =
      records_on file p c g r ∙ ap (λ (es : List ChunkIndexEntry). entry c.kind p ∷ es) (records-stop file (past_at file p c) n) in
      rw (counts_cut file p.cursor c g s m, last) (one-cut file s (entry c.kind p) w)

  by_step : ((c : ChunkAt) → Goes file p.cursor c → Sums file (counted c.kind s) (past_at file p c)) → Sums file s p
  by_step later = on (step_at file p.cursor) refl
    where
      chunks : (c : ChunkAt) → Goes file p.cursor c → (missing : ℕ) → c.missing ≡ missing → Sums file s p
      chunks c g zero m = at-whole c g m (later c g)
      chunks c g (suc n) m = at_cut c g (omega arith) (recorded_at c) refl

      on : (x : Step) → step_at file p.cursor ≡ x → Sums file s p
      on step.RanOut e = at-stop (step_means file p.cursor step.RanOut e)
      on step.Trailer e = at-stop (step_means file p.cursor step.Trailer e).is
      on step.UnknownTag e = at-stop (step_means file p.cursor step.UnknownTag e)
      on (step.Chunk c) e = chunks c (step_means file p.cursor (step.Chunk c) e) c.missing refl

sums : (file : List ℕ) (p : Position) (s : ChunkCounts) → Sums file s p
sums file = along file (λ p. (s : ChunkCounts) → Sums file s p) (λ p later s. by_step file s p (λ c g. later c g (counted c.kind s)))

all_sums : (file : List ℕ) → Summed file none_counted (counts_from none_counted (file_walk file)) (records start (file_walk file))
unfolding Sums
all_sums file = sums file start none_counted

-- both ask the same questions
pub summary_counts : (file : List ℕ) → summary_of file ≡ and_then (index_of file) (λ es. accepted (record_counts (whole_ones file es)))
unfolding summary_of index_of
summary_counts file = go (within_limit file) (tags_known prelude_len (file_walk file))
  where
    es : List ChunkIndexEntry
    es = records start (file_walk file)

    zero-top : on_top none_counted (whole_ones file es) ≡ record_counts (whole_ones file es)
    zero-top = same_counts (zero-add (tagged video_tag (whole_ones file es))) (zero-add (tagged audio_tag (whole_ones file es)))

    go : (b : Bool) (known : Answer Unit)
        → ask b 10 0 (and_then known (λ _. accepted (counts_from none_counted (file_walk file))))
        ≡ and_then (ask b 10 0 (and_then known (λ _. accepted es))) (λ es. accepted (record_counts (whole_ones file es)))
    go false known = refl
    go true (refused r) = refl
    go true (accepted u) = ap accepted ((all_sums file).counts_are ∙ zero-top)

pub one_more : (file : List ℕ) (es : List ChunkIndexEntry) → index_of file ≡ accepted es
    → (s : ChunkCounts) × ((summary_of file ≡ accepted s) × (length es ≡ s.frames + s.blocks + last_cut file es))
unfolding index_of
one_more file es e =
    let a = ask-passed (within_limit file) 10 0 _ e in
    let b = then-accepted (tags_known prelude_len (file_walk file)) (λ _. accepted (records start (file_walk file))) a.1 in
    let is : records start (file_walk file) ≡ es = accepted-same b.2 in (
      record_counts (whole_ones file es),
      (
        summary_counts file ∙ rw e,
        subst (λ (es : List ChunkIndexEntry). length es ≡ tagged video_tag (whole_ones file es) + tagged audio_tag (whole_ones file es) + last_cut file es)
            is (all_sums file).length-is,
      ),
    )
