-- 01's sentences about index and summary hold. A chunk that is cut is followed through its bytes, and the walk ends after it; counts go by
-- induction over the walk; the rest by the cases of the questions. Assumes nothing.
use mathlib.Core.Path.{◌≡◌, refl, sym, ap, ◌∙◌}
use mathlib.Core.Bool.{Bool, true, false, cond}
use mathlib.Core.List.{List, [], ◌∷◌}
use Prim.Native.Nat.{ℕ, ◌+◌, ◌*◌, ◌≤◌, ◌<◌, min}
use native.Mathlib.Omega.{arith}
use borrow.Author.Tests.{le-leb, lt-leb}
use lib.Dec.{leb}
use lib.ListN.{length, drop, length-append, length-take, length-drop}
use lib.Seq.{drop_at}
use Rattle.fields.specs.Capped.{u32_max}
use Rattle.chunk.specs.Chunk.{video_tag, audio_tag}
use Rattle.error.specs.Answer.{Answer, accepted, refused, ask, and_then}
use Rattle.error.specs.Sentences.{one_of, RefusedBy}
use Rattle.error.specs.declared.Refusal.{Refusal}
use Rattle.error.proofs.Answers.{never, accepted-same}
use Rattle.error.proofs.Sentences.{asked_by, then_by}
use Rattle.fields.specs.File.{within_limit}
use Rattle.fields.specs.Le.{le_bytes, put}
use Rattle.demuxer.specs.Head.{head_at, is_trailer, chunk_head}
use Rattle.prelude.specs.Layout.{prelude_len}
use Rattle.demuxer.specs.Read.{payload_at}
use Rattle.demuxer.specs.declared.position.Position.{Position}
use Rattle.demuxer.proofs.Suffixes.{chunk_suffix}
use Rattle.chunk_index.specs.Entry.{entry_len, entry, table_bytes}
use Rattle.chunk_index.specs.Index.{recorded, records, tags_known, index_of, built_from, build_of}
use Rattle.chunk_index.specs.Sentences.{EndsIn, IndexSentences}
use Rattle.chunk_index.specs.Summary.{summary_of}
use Rattle.chunk_index.specs.declared.entry.ChunkIndexEntry.{ChunkIndexEntry}
use Rattle.chunk_index.proofs.Entries.{length-table}
use Rattle.chunk_index.proofs.Folds.{records_on, records-end}
use Rattle.chunk_index.proofs.Wholes.{summary_counts, one_more}
use Rattle.walk.specs.Walk.{ran_out, trailer, unknown_tag, chunk_at, on_head, step_at, Walk, stop, chunk, walk, file_walk}
use Rattle.walk.specs.declared.Kind.TheVariants.{Frame, Sound}
use Rattle.walk.specs.declared.Step.TheVariants as step
use Rattle.walk.specs.Steps.{past_at}
use Rattle.walk.proofs.Walks.{Goes, step_out, step_means}

-- ---- a chunk that is cut

module _ (file part : List ℕ) (p : Position) (tag size : ℕ) (e : EndsIn file p tag size part) where
  ends_at : length file ≡ p.cursor + 8 + length part
  ends_at =
      let c = e.cursor in
      let l : length file ≡ length e.before + (8 + length part) = ap length e.is ∙ (unfold le_bytes in simp length-append (omega arith)) in
      omega arith

  head_is : tag ≤ u32_max → is_trailer tag size ≡ false → head_at file p.cursor ≡ chunk_head tag size
  head_is t n = let h = e.held in (λ i. head_at (e.is i) (e.cursor i)) ∙ chunk_suffix e.before part tag size (omega arith) (omega arith) n

  -- nothing is recorded after it
  no_more : (q : Position) → records q (walk file (p.cursor + (8 + size))) ≡ []
  unfolding records
  no_more q =
      let l = ends_at in
      let c = e.cut in
      ap (records q) (step_means file (p.cursor + (8 + size)) step.RanOut (step_out file (p.cursor + (8 + size)) (omega arith)))

cut_frame : (file part : List ℕ) (p : Position) (size : ℕ) → EndsIn file p video_tag size part
    → records p (walk file p.cursor) ≡ record { tag = video_tag; position = p } ∷ []
unfolding step_at
cut_frame file part p size e =
    let c = chunk_at file p.cursor Frame size in
    let h = head_is file part p video_tag size e (omega arith) refl in
    let g = step_means file p.cursor (step.Chunk c) (ap (on_head file p.cursor) h) in
    records_on file p c g refl ∙ ap (λ (es : List ChunkIndexEntry). entry Frame p ∷ es) (no_more file part p video_tag size e (past_at file p c))

module _ (file part : List ℕ) (p : Position) (size : ℕ) (e : EndsIn file p audio_tag size part) where
  heard : Goes file p.cursor (chunk_at file p.cursor Sound size)
  unfolding step_at
  heard =
      step_means file p.cursor (step.Chunk (chunk_at file p.cursor Sound size))
      (ap (on_head file p.cursor) (head_is file part p audio_tag size e (omega arith) refl))

  -- what is missing of it
  gone : (chunk_at file p.cursor Sound size).missing + length part ≡ size
  gone =
      let l = ends_at file part p audio_tag size e in
      let c = e.cut in
      let n : length (payload_at file p.cursor size) ≡ length part = simp (length-take, length-drop) (omega arith) in
      omega arith

  cut_sound : min 8 size ≤ length part → records p (walk file p.cursor) ≡ record { tag = audio_tag; position = p } ∷ []
  cut_sound h =
      let c = chunk_at file p.cursor Sound size in
      records_on file p c heard (le-leb (min 8 size + c.missing) size (omega (arith, gone)))
      ∙ ap (λ (es : List ChunkIndexEntry). entry Sound p ∷ es) (no_more file part p audio_tag size e (past_at file p c))

  lost_sound : length part < min 8 size → records p (walk file p.cursor) ≡ []
  lost_sound h =
      let c = chunk_at file p.cursor Sound size in
      records-end file p c heard (lt-leb (min 8 size + c.missing) size (omega (arith, gone)))

-- ---- the table

-- what was built of records, where the table has room for them
fitting : List ℕ → Answer (List ChunkIndexEntry) → Answer (List ChunkIndexEntry)
fitting table found = and_then found (λ es. ask (leb (entry_len * length es) (length table)) 40 0 (accepted es))

record Filled (found : Answer (List ChunkIndexEntry)) (table : List ℕ) (n : ℕ) : Type 0 where
  entries : List ChunkIndexEntry
  indexed_as : found ≡ accepted entries
  count-is : n ≡ length entries
  table_is : (built_from table (fitting table found)).table ≡ put table 0 (table_bytes entries)

filled : (found : Answer (List ChunkIndexEntry)) (table : List ℕ) (n : ℕ) → (built_from table (fitting table found)).answer ≡ accepted n
    → Filled found table n
unfolding fitting
filled (refused r) table n e = never (sym e)
filled (accepted es) table n e = go _ refl e
  where
    go : (b : Bool) → leb (entry_len * length es) (length table) ≡ b
        → (built_from table (ask b 40 0 (accepted es))).answer ≡ accepted n → Filled (accepted es) table n
    go true t e = record { entries = es; indexed_as = refl; count-is = sym (accepted-same e); table_is = unfold fitting in rw t }
    go false t e = never (sym e)

built : (file table : List ℕ) (n : ℕ) → (build_of file table).answer ≡ accepted n → Filled (index_of file) table n
unfolding build_of fitting
built file table n e = filled (index_of file) table n e

after_stay : (file table : List ℕ) (n : ℕ) → (build_of file table).answer ≡ accepted n
    → drop (entry_len * n) (build_of file table).table ≡ drop (entry_len * n) table
unfolding build_of put fitting
after_stay file table n e =
    let f = built file table n e in
    let c = f.count-is in
    let l : length (table_bytes f.entries) ≡ entry_len * n = length-table f.entries ∙ omega arith in
    let z : 0 + length (table_bytes f.entries) ≡ entry_len * n = omega arith in
    ap (drop (entry_len * n)) f.table_is
    ∙ drop_at (table_bytes f.entries) (drop (0 + length (table_bytes f.entries)) table) (entry_len * n) l
    ∙ ap (λ (k : ℕ). drop k table) z

gives_back : (file table : List ℕ) (r : Refusal) → (build_of file table).answer ≡ refused r → (build_of file table).table ≡ table
unfolding build_of
gives_back file table r = go (and_then (index_of file) (λ es. ask (leb (entry_len * length es) (length table)) 40 0 (accepted es)))
  where
    go : (a : Answer (List ChunkIndexEntry)) → (built_from table a).answer ≡ refused r → (built_from table a).table ≡ table
    go (accepted es) h = never h
    go (refused q) h = refl

-- ---- the numbers

module _ (numbers : List ℕ) (n : one_of numbers 31 ≡ true) where
  known_by : (at : ℕ) (w : Walk) → RefusedBy numbers (tags_known at w)
  unfolding tags_known
  known_by at (stop ran_out) = tt
  known_by at (stop (trailer k)) = tt
  known_by at (stop unknown_tag) = n
  known_by at (chunk kind payload missing rest) = go (recorded kind payload missing) _ (known_by (at + (8 + (length payload + missing))) rest)
    where
      go : (b : Bool) (later : Answer Unit) → RefusedBy numbers later → RefusedBy numbers (cond b later (accepted tt))
      go true later h = h
      go false later h = tt

index_by : (file : List ℕ) → RefusedBy (10 ∷ 31 ∷ 40 ∷ []) (index_of file)
unfolding index_of
index_by file =
    asked_by (10 ∷ 31 ∷ 40 ∷ []) (within_limit file) 10 0 _ refl
    (then_by (10 ∷ 31 ∷ 40 ∷ []) (tags_known prelude_len (file_walk file)) _ (known_by (10 ∷ 31 ∷ 40 ∷ []) refl prelude_len (file_walk file)) (λ u. tt))

built_by : (table : List ℕ) (a : Answer (List ChunkIndexEntry)) → RefusedBy (10 ∷ 31 ∷ 40 ∷ []) a
    → RefusedBy (10 ∷ 31 ∷ 40 ∷ []) (built_from table a).answer
built_by table (accepted es) h = tt
built_by table (refused r) h = h

build_by : (file table : List ℕ) → RefusedBy (10 ∷ 31 ∷ 40 ∷ []) (build_of file table).answer
unfolding build_of
build_by file table =
    let fits : List ChunkIndexEntry → Answer (List ChunkIndexEntry) =
    λ es. ask (leb (entry_len * length es) (length table)) 40 0 (accepted es) in
    built_by table (and_then (index_of file) fits)
    (then_by (10 ∷ 31 ∷ 40 ∷ []) (index_of file) fits (index_by file)
    (λ es. asked_by (10 ∷ 31 ∷ 40 ∷ []) (leb (entry_len * length es) (length table)) 40 0 (accepted es) refl tt))

pub index_sentences : IndexSentences
unfolding summary_of
index_sentences =
    record {
      cut_frame = cut_frame;
      cut_sound = cut_sound;
      lost_sound = lost_sound;
      summary_counts = summary_counts;
      one_more = one_more;
      count = λ file table n e. let f = built file table n e in (f.entries, f.indexed_as, f.count-is);
      after_stay = after_stay;
      gives_back = gives_back;
      numbers = build_by;
      summary_numbers =
          λ file.
          asked_by (10 ∷ 31 ∷ []) (within_limit file) 10 0 _ refl
          (then_by (10 ∷ 31 ∷ []) (tags_known prelude_len (file_walk file)) _ (known_by (10 ∷ 31 ∷ []) refl prelude_len (file_walk file)) (λ u. tt));
    }
