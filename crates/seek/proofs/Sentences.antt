-- The sentences about the indexed seek hold. A seek is refused, goes to a record or to the end; what the search found goes by induction over
-- the records. Which question is told goes by the laws of the questions. Assumes nothing.
use mathlib.Core.Path.{◌≡◌, refl, sym, ap, ◌∙◌, subst}
use Rattle.std.proofs.Common.{Option, Some, None}
use mathlib.Core.Bool.{Bool, true, false, cond}
use mathlib.Core.List.{List, [], ◌∷◌, ◌++◌}
use Prim.Native.Nat.{ℕ, ◌%◌, ◌≤◌, ◌<◌}
use borrow.Author.Tests.{eq-eqb, eqb-true, le-leb, lt-leb}
use lib.Dec.{eqb, leb}
use lib.IntN.{ℤ, pos}
use lib.ListN.{length}
use lib.Signed.{le_z}
use Rattle.fields.proofs.Impossible.{impossible}
use Rattle.chunk.specs.Chunk.{stream_tag}
use Rattle.error.specs.Answer.{Answer, accepted, refused, numbered, ask}
use Rattle.error.specs.Sentences.{RefusedBy}
use Rattle.error.specs.declared.Refusal.{Refusal}
use Rattle.error.proofs.Answers.{never, clash, accepted-same, both}
use Rattle.error.proofs.Sentences.{asked_by, then_by}
use Rattle.chunk_index.specs.Entry.{entries_of}
use Rattle.chunk_index.specs.declared.entry.ChunkIndexEntry.{ChunkIndexEntry}
use Rattle.demuxer.specs.Position.{in_range, InRange}
use Rattle.demuxer.proofs.Ranges.{in_range_lem, range_facts}
use Rattle.demuxer.specs.declared.position.Position.{Position}
use Rattle.demuxer.specs.declared.walker.Walker.{Walker}
use Rattle.table.specs.Table.{good_entry, table_questions}
use Rattle.table.specs.Sentences.{FirstNo, Good}
use Rattle.table.proofs.Sentences.{table_by, good_back, ragged, bad_record}
use Rattle.seek.specs.Seek.{stamp_of, seek_questions, reaches, find, beyond, past_last, Seeking, moved_to, landed, sought_from, seek_of}
use Rattle.seek.specs.Sentences.{Reaches, NoneReaches, GoneTo, Past, SeekSentences}
use Rattle.seek.proofs.Seeks.{no_stream, bad_table, out_of_range, all_pass, when_refused, when_accepted}

-- ---- the search

module _ (stream : ℕ) (request : ℤ) where
  reach : (e : ChunkIndexEntry) → reaches stream request e ≡ true → Reaches stream request e
  reach e t =
      let b = both (eqb e.tag (stream_tag stream)) (le_z request (pos (stamp_of stream e.position))) t in
      record { of_stream_lem = eqb-true e.tag (stream_tag stream) b.0; stamp = b.1 }

  no_reach : (e : ChunkIndexEntry) → reaches stream request e ≡ false → Reaches stream request e → ⊥
  no_reach e f r = clash {b = reaches stream request e} (rw (eq-eqb e.tag (stream_tag stream) r.of_stream_lem, r.stamp)) f

  record First (es : List ChunkIndexEntry) (p : Position) : Type 0 where
    before : List ChunkIndexEntry
    found : ChunkIndexEntry
    later : List ChunkIndexEntry
    is : es ≡ before ++ (found ∷ later)
    passed : NoneReaches stream request before
    reached : Reaches stream request found
    there : p ≡ found.position

  on_found : (e : ChunkIndexEntry) (es : List ChunkIndexEntry) (p : Position) → (find stream request es ≡ Some p → First es p)
      → (b : Bool) → reaches stream request e ≡ b → cond b (Some e.position) (find stream request es) ≡ Some p → First (e ∷ es) p
  on_found e es p later true t f =
      record { before = []; found = e; later = es; is = refl; passed = tt; reached = reach e t; there = cc }
  on_found e es p later false t f =
      let r = later f in
      record {
        before = e ∷ r.before;
        found = r.found;
        later = r.later;
        is = ap (λ (l : List ChunkIndexEntry). e ∷ l) r.is;
        passed = (no_reach e t, r.passed);
        reached = r.reached;
        there = r.there;
      }

  find_some : (es : List ChunkIndexEntry) (p : Position) → find stream request es ≡ Some p → First es p
  unfolding find
  find_some [] p f = impossible cc
  find_some (e ∷ es) p f = on_found e es p (find_some es p) _ refl f

  on_none : (e : ChunkIndexEntry) (es : List ChunkIndexEntry) → (find stream request es ≡ None → NoneReaches stream request es)
      → (b : Bool) → reaches stream request e ≡ b → cond b (Some e.position) (find stream request es) ≡ None
      → NoneReaches stream request (e ∷ es)
  on_none e es later true t f = impossible cc
  on_none e es later false t f = (no_reach e t, later f)

  find_none : (es : List ChunkIndexEntry) → find stream request es ≡ None → NoneReaches stream request es
  unfolding find
  find_none [] f = tt
  find_none (e ∷ es) f = on_none e es (find_none es) _ refl f

-- ---- past the last record

past_end : (p : Position) (front : List ChunkIndexEntry) (e : ChunkIndexEntry) → past_last p (front ++ (e ∷ [])) ≡ beyond e
unfolding past_last
past_end p [] e = refl
past_end p (x ∷ front) e = past_end (beyond x) front e

past-entry : (e : ChunkIndexEntry) → Past e (beyond e)
past-entry e =
    record {
      cursor = refl;
      samples = refl;
      frame = λ t. (rw t, rw t);
      block = λ t. (rw t, rw t);
    }

-- ---- a seek is one of three

module _ (table : List ℕ) (w : Walker) (stream : ℕ) (request : ℤ) (P : Seeking → Type 0)
    (turned_away : (r : Refusal) → seek_questions table w stream ≡ refused r → P (record { answer = refused r; walker = w }))
    (to-record : (p : Position) → find stream request (entries_of table) ≡ Some p → P (moved_to w stream p false))
    (to_end : find stream request (entries_of table) ≡ None → P (moved_to w stream (past_last w.position (entries_of table)) true)) where
  landing : (f : Option Position) → find stream request (entries_of table) ≡ f → P (landed (entries_of table) w stream f)
  landing None e = to_end e
  landing (Some p) e = to-record p e

  asking : (q : Answer Unit) → seek_questions table w stream ≡ q
      → P (sought_from q w (landed (entries_of table) w stream (find stream request (entries_of table))))
  asking (accepted u) e = landing _ refl
  asking (refused r) e = turned_away r e

  seek_cases : P (seek_of table w stream request)
  unfolding seek_of
  seek_cases = asking _ refl

module _ (table : List ℕ) (w : Walker) (stream : ℕ) (request : ℤ) where
  found : (stamp : ℕ) → (seek_of table w stream request).answer ≡ accepted stamp
      → (seek_of table w stream request).walker.end ≡ false → GoneTo table stream request stamp (seek_of table w stream request).walker.position
  found stamp =
      seek_cases table w stream request
      (λ (q : Seeking). q.answer ≡ accepted stamp → q.walker.end ≡ false → GoneTo table stream request stamp q.walker.position)
      (λ r e a g. never (sym a))
      (λ p f a g.
      let s = find_some stream request (entries_of table) p f in
      record {
        before = s.before;
        found = s.found;
        later = s.later;
        is = s.is;
        passed = s.passed;
        reaches = s.reached;
        there = s.there;
        stamped = sym (accepted-same a) ∙ ap (stamp_of stream) s.there;
      })
      (λ f a g. clash refl g)

  not_found : (stamp : ℕ) → (seek_of table w stream request).answer ≡ accepted stamp → (seek_of table w stream request).walker.end ≡ true
      → NoneReaches stream request (entries_of table) × (stamp ≡ stamp_of stream (seek_of table w stream request).walker.position)
  not_found stamp =
      seek_cases table w stream request
      (λ (q : Seeking).
      q.answer ≡ accepted stamp → q.walker.end ≡ true
      → NoneReaches stream request (entries_of table) × (stamp ≡ stamp_of stream q.walker.position))
      (λ r e a g. never (sym a))
      (λ p f a g. clash g refl)
      (λ f a g. (find_none stream request (entries_of table) f, sym (accepted-same a)))

  last : (stamp : ℕ) (front : List ChunkIndexEntry) (e : ChunkIndexEntry) → (seek_of table w stream request).answer ≡ accepted stamp
      → (seek_of table w stream request).walker.end ≡ true → entries_of table ≡ front ++ (e ∷ [])
      → Past e (seek_of table w stream request).walker.position
  last stamp front e =
      seek_cases table w stream request
      (λ (q : Seeking). q.answer ≡ accepted stamp → q.walker.end ≡ true → entries_of table ≡ front ++ (e ∷ []) → Past e q.walker.position)
      (λ r e a g i. never (sym a))
      (λ p f a g i. clash g refl)
      (λ f a g i. subst (Past e) (sym (ap (past_last w.position) i ∙ past_end w.position front e)) (past-entry e))

  empty : entries_of table ≡ [] → (seek_of table w stream request).walker.position ≡ w.position
  unfolding find past_last
  empty =
      seek_cases table w stream request (λ (q : Seeking). entries_of table ≡ [] → q.walker.position ≡ w.position)
      (λ r e i. refl)
      (λ p f i. let z : ◌≡◌ {A = Option Position} None (Some p) = sym (ap (find stream request) i) ∙ f in impossible cc)
      (λ f i. ap (past_last w.position) i)

-- ---- which question is told

not_so : (b : Bool) → (b ≡ true → ⊥) → b ≡ false
not_so true n = absurd (n refl)
not_so false n = refl

module _ (table : List ℕ) (w : Walker) (stream : ℕ) (request : ℤ) where
  told : {r : Refusal} → seek_questions table w stream ≡ refused r → (seek_of table w stream request).answer ≡ refused r
  told q = ap (λ (s : Seeking). s.answer) (when_refused table w stream request q)

  forty_two : 1 < stream → (seek_of table w stream request).answer ≡ refused (numbered 42 0)
  forty_two h = told (no_stream table w stream (lt-leb stream 1 h))

  module _ (known : stream ≤ 1) where
    forty_one : (length table % 24 ≡ 0 → ⊥) → (seek_of table w stream request).answer ≡ refused (numbered 41 0)
    forty_one n = told (bad_table table w stream (le-leb stream 1 known) (ragged table n))

    forty_three : (at : ℕ) → length table % 24 ≡ 0 → FirstNo good_entry (entries_of table) at
        → (seek_of table w stream request).answer ≡ refused (numbered 43 at)
    forty_three at h f = told (bad_table table w stream (le-leb stream 1 known) (bad_record table h f))

    thirty_two : Good table → (InRange w.position → ⊥) → (seek_of table w stream request).answer ≡ refused (numbered 32 0)
    thirty_two g n =
        told
        (out_of_range table w stream (le-leb stream 1 known) (good_back table g)
        (not_so (in_range w.position) (λ r. n (range_facts w.position r))))

    accepts : Good table → InRange w.position → (stamp : ℕ) × ((seek_of table w stream request).answer ≡ accepted stamp)
    accepts g r =
        rw (when_accepted table w stream request (all_pass table w stream (le-leb stream 1 known) (good_back table g) (in_range_lem w.position r)))
        (landed-answers (find stream request (entries_of table)))
      where
        landed-answers : (f : Option Position) → (stamp : ℕ) × ((landed (entries_of table) w stream f).answer ≡ accepted stamp)
        landed-answers None = (_, refl)
        landed-answers (Some p) = (_, refl)

-- ---- the numbers

asked : (table : List ℕ) (w : Walker) (stream : ℕ) → RefusedBy (42 ∷ 41 ∷ 43 ∷ 32 ∷ []) (seek_questions table w stream)
unfolding seek_questions
asked table w stream =
    let ns : List ℕ = 42 ∷ 41 ∷ 43 ∷ 32 ∷ [] in
    let last : Unit → Answer Unit = λ _. ask (in_range w.position) 32 0 (accepted tt) in
    asked_by ns (leb stream 1) 42 0 _ refl
    (then_by ns (table_questions table) last (table_by ns refl refl table) (λ u. asked_by ns (in_range w.position) 32 0 (accepted tt) refl tt))

pub seek_sentences : SeekSentences
seek_sentences =
    record {
      found = found;
      none = not_found;
      last = last;
      empty = empty;
      cut_stays =
          λ table w stream request.
          seek_cases table w stream request (λ (q : Seeking). q.walker.cut ≡ w.cut) (λ r e. refl) (λ p e. refl) (λ e. refl);
      trailer_stays =
          λ table w stream request.
          seek_cases table w stream request (λ (q : Seeking). q.walker.trailer ≡ w.trailer) (λ r e. refl) (λ p e. refl) (λ e. refl);
      forty_two = forty_two;
      forty_one = forty_one;
      forty_three = λ table w stream request at k. forty_three table w stream request k at;
      thirty_two = thirty_two;
      accepts = accepts;
      gives_back =
          λ table stream request w r.
          seek_cases table w stream request (λ (q : Seeking). q.answer ≡ refused r → q.walker ≡ w) (λ r e a. refl) (λ p e a. never a) (λ e a. never a);
      numbers =
          λ table w stream request.
          seek_cases table w stream request (λ (q : Seeking). RefusedBy (42 ∷ 41 ∷ 43 ∷ 32 ∷ []) q.answer)
          (λ r e. subst (RefusedBy (42 ∷ 41 ∷ 43 ∷ 32 ∷ [])) e (asked table w stream))
          (λ p e. tt)
          (λ e. tt);
    }
