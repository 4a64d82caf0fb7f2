-- The index of a finished recording: a record for each chunk, written and read back. Assumes nothing.
use mathlib.Core.Path.{◌≡◌, refl, sym, ap, ap₂, ◌∙◌}
use mathlib.Core.Bool.{Bool, true, false, cond}
use mathlib.Core.List.{List, [], ◌∷◌, ◌++◌, append_assoc, append-nil}
use Prim.Native.Nat.{ℕ, ◌+◌, ◌*◌, ◌/◌, ◌^◌, ◌<◌, min}
use native.Mathlib.Nat.{add-zero}
use native.Mathlib.Omega.{arith}
use borrow.Author.Tests.{le-leb}
use lib.Dec.{leb}
use lib.Seq.{take_at}
use lib.ListN.{length, take, length-append}
use Rattle.fields.proofs.Impossible.{impossible}
use Rattle.prelude.specs.Layout.{prelude_len}
use Rattle.chunk.specs.Chunk.{trailer_bytes}
use Rattle.error.specs.Answer.{Answer, accepted, refused, ask, and_then}
use Rattle.fields.specs.File.{file_limit}
use Rattle.fields.specs.Le.{put}
use Rattle.demuxer.specs.Position.{start}
use Rattle.demuxer.specs.declared.position.Position.{Position}
use Rattle.walk.specs.Walk.{walk, past, file_walk}
use Rattle.walk.specs.declared.Kind.{Kind}
use Rattle.walk.specs.declared.Kind.TheVariants.{Frame, Sound}
use Rattle.walk.specs.Chunks.{Chunk, chunk_of, chunks_bytes, walk_of}
use Rattle.chunk_index.specs.Entry.{entry_len, entry, entry_bytes, table_bytes, entries_from, entries_of}
use Rattle.chunk_index.specs.Steps.{Small}
use Rattle.chunk_index.specs.Index.{Built, built_from, build_of, recorded, records, tags_known, index_of}
use Rattle.chunk_index.specs.declared.entry.ChunkIndexEntry.{ChunkIndexEntry}
use Rattle.walk.proofs.Chunked.{chunks_walked}
use Rattle.chunk_index.proofs.Entries.{entry_back, length-entry_bytes, length-table}
use Rattle.recording.specs.Grammar.{Finished}
use Rattle.recording.specs.Machine.{OwnIndex}
use Rattle.recording.proofs.Positions.{passed}

-- the records of chunks from a position on
unfoldable pub records_of : Position → List Chunk → List ChunkIndexEntry
records_of p [] = []
records_of p (chunk_of kind payload ∷ cs) = entry kind p ∷ records_of (passed p kind payload) cs

-- what a test leaves as it is
pub either : {A : Type 0} (t : Bool) (x : A) → cond t x x ≡ x
either true x = refl
either false x = refl

pub recorded-whole : (kind : Kind) (payload : List ℕ) → recorded kind payload 0 ≡ true
recorded-whole Frame payload = refl
recorded-whole Sound payload = le-leb (min 8 (length payload + 0)) (length payload) (omega arith)

pub past-whole : (p : Position) (kind : Kind) (payload : List ℕ) → past p kind payload 0 ≡ passed p kind payload
past-whole p Frame payload = rw add-zero
past-whole p Sound payload = rw add-zero

pub records-chunks : (p : Position) (cs : List Chunk) (n : ℕ) → records p (walk_of cs n) ≡ records_of p cs
unfolding records_of records walk_of
records-chunks p [] n = refl
records-chunks p (chunk_of kind payload ∷ cs) n = rw (recorded-whole kind payload, past-whole p kind payload, records-chunks (passed p kind payload) cs n)

pub tags_known_lem : (at : ℕ) (cs : List Chunk) (n : ℕ) → tags_known at (walk_of cs n) ≡ accepted tt
unfolding tags_known walk_of
tags_known_lem at [] n = refl
tags_known_lem at (chunk_of kind payload ∷ cs) n = rw (recorded-whole kind payload) (tags_known_lem (at + (8 + (length payload + 0))) cs n)

-- the walk of a finished recording
pub finished-walk : (file : List ℕ) (cs : List Chunk) → Finished file cs → file_walk file ≡ walk_of cs 0
finished-walk file cs fin =
    let e : file ≡ fin.prelude ++ (chunks_bytes cs ++ (trailer_bytes ++ [])) =
    fin.is ∙ ap (λ (l : List ℕ). fin.prelude ++ (chunks_bytes cs ++ l)) (sym (append-nil trailer_bytes)) in
    (λ i. walk (e i) (sym fin.whole i)) ∙ chunks_walked fin.prelude cs [] fin.lengths

pub index-finished : (file : List ℕ) (cs : List Chunk) → Finished file cs → index_of file ≡ accepted (records_of start cs)
unfolding index_of
index-finished file cs fin =
    rw (le-leb (length file) file_limit fin.fits, finished-walk file cs fin, tags_known_lem prelude_len cs 0, records-chunks start cs 0)

-- ---- a table of records, read back

pub record Fits (e : ChunkIndexEntry) : Type 0 where
  pub tag_fits : e.tag < 256 ^ 4
  pub small : Small e.position
  pub samples_fit : e.position.samples.0 < 256 ^ 8

abbrev pub AllFit : List ChunkIndexEntry → Type 0
AllFit [] = Unit
AllFit (e ∷ es) = Fits e × AllFit es

pub entries_back : (xs : List ℕ) (es : List ChunkIndexEntry) → AllFit es → entries_from (length es) (xs ++ table_bytes es) (length xs) ≡ es
unfolding table_bytes entries_from
entries_back xs [] f = refl
entries_back xs (e ∷ es) f =
    let a : xs ++ (entry_bytes e ++ table_bytes es) ≡ (xs ++ entry_bytes e) ++ table_bytes es = sym (append_assoc xs (entry_bytes e) (table_bytes es)) in
    let n : length xs + entry_len ≡ length (xs ++ entry_bytes e) = omega (arith, length-append xs (entry_bytes e), length-entry_bytes e) in
    ap₂ (λ (x : ChunkIndexEntry) (l : List ChunkIndexEntry). x ∷ l)
    (entry_back xs (table_bytes es) e f.0.tag_fits f.0.small f.0.samples_fit)
    ((λ i. entries_from (length es) (a i) (n i)) ∙ entries_back (xs ++ entry_bytes e) es f.1)

pub table_back : (es : List ChunkIndexEntry) → AllFit es → entries_of (table_bytes es) ≡ es
table_back es f =
    let n : length (table_bytes es) / entry_len ≡ length es = omega (arith, length-table es) in
    ap (λ (k : ℕ). entries_from k (table_bytes es) 0) n ∙ entries_back [] es f

-- ---- what `build_chunk_index` writes is the file's own index

abbrev built_as : List ℕ → Bool → List ChunkIndexEntry → Built
built_as table t es = built_from table (ask t 40 0 (accepted es))

built-room : (file table : List ℕ) (n : ℕ) (es : List ChunkIndexEntry) (t : Bool) → index_of file ≡ accepted es → (built_as table t es).answer ≡ accepted n
    → OwnIndex file (take (entry_len * n) (built_as table t es).table)
unfolding put
built-room file table n es true e a =
    let m : length es ≡ n = cc in
    record { entries = es; indexed = e; is = take_at (table_bytes es) _ (entry_len * n) (omega (arith, length-table es)) }
built-room file table n es false e a = impossible cc

pub built-own : (file table : List ℕ) (n : ℕ) → (build_of file table).answer ≡ accepted n → OwnIndex file (take (entry_len * n) (build_of file table).table)
unfolding build_of
built-own file table n a = go _ refl a
  where
    room : List ChunkIndexEntry → Answer (List ChunkIndexEntry)
    room es = ask (leb (entry_len * length es) (length table)) 40 0 (accepted es)

    go : (x : Answer (List ChunkIndexEntry)) → index_of file ≡ x → (built_from table (and_then x room)).answer ≡ accepted n
        → OwnIndex file (take (entry_len * n) (built_from table (and_then x room)).table)
    go (accepted es) e a = built-room file table n es (leb (entry_len * length es) (length table)) e a
    go (refused r) e a = impossible cc
