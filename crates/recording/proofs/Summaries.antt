-- The summary counts what reads give. Of every file these are the packets of the whole chunks of its walk, and so are the counts, by induction along
-- it; of a finished recording, by its chunks. Assumes nothing.
use mathlib.Core.Path.{◌≡◌, refl, sym, ap, ◌∙◌}
use Rattle.std.proofs.Common.{None}
use mathlib.Core.Bool.{false}
use mathlib.Core.List.{List, [], ◌∷◌}
use Prim.Native.Nat.{ℕ, suc, ◌+◌}
use native.Mathlib.Nat.{add-zero, zero-add}
use native.Mathlib.Omega.{arith}
use borrow.Author.Tests.{le-leb, leb-true, ne_eqb}
use lib.ListN.{length}
use Rattle.error.specs.Answer.{accepted, and_then}
use Rattle.error.proofs.Answers.{accepted-same, then-accepted, ask-passed}
use Rattle.fields.specs.File.{file_limit, within_limit}
use Rattle.fields.specs.Le.{Bytes}
use Rattle.prelude.specs.Layout.{prelude_len}
use Rattle.demuxer.specs.Packet.{Shown}
use Rattle.demuxer.specs.Position.{start}
use Rattle.demuxer.specs.Read.{fresh}
use Rattle.demuxer.specs.declared.position.Position.{Position}
use Rattle.walk.specs.Chunks.{Chunk, chunk_of, walk_of}
use Rattle.walk.specs.Walk.{Walk, file_walk}
use Rattle.walk.specs.declared.Kind.{Kind}
use Rattle.walk.specs.declared.Kind.TheVariants.{Frame, Sound}
use Rattle.chunk_index.specs.Index.{recorded, tags_known, index_of}
use Rattle.chunk_index.specs.Sentences.{tagged, record_counts}
use Rattle.chunk_index.specs.Summary.{none_counted, counted, counts_from, summary_of}
use Rattle.chunk_index.specs.declared.summary.ChunkCounts.{ChunkCounts}
use Rattle.chunk_index.proofs.Folds.{same_counts}
use Rattle.recording.specs.Grammar.{Finished}
use Rattle.recording.specs.Drain.{drain, drain_from, frames, blocks}
use Rattle.recording.specs.Machine.{PacketsLeft}
use Rattle.recording.specs.Indexed.{wholes_of}
use Rattle.recording.specs.Summary.{of_stream, packet_counts, SummaryIsDrain}
use Rattle.recording.proofs.Positions.{passed, shown_at, drain_at, drain-cons}
use Rattle.recording.proofs.Drains.{ReadWalk, stops, cut_short, whole, read_walk, reads-drain, packets-left}
use Rattle.recording.proofs.Tables.{records_of, either, recorded-whole, tags_known_lem, finished-walk, index-finished}

-- ---- every file

-- the counts of packets, on top of s
abbrev on_top : ChunkCounts → List Shown → ChunkCounts
on_top s ps = record { frames = s.frames + of_stream 0 ps; blocks = s.blocks + of_stream 1 ps }

-- of none, and of one more
on_none : (s : ChunkCounts) → s ≡ on_top s []
unfolding of_stream
on_none s = same_counts (sym (add-zero s.frames)) (sym (add-zero s.blocks))

on_more : (s : ChunkCounts) (p : Position) (kind : Kind) (payload : List ℕ) (ps : List Shown)
    → on_top (counted kind s) ps ≡ on_top s (shown_at p kind payload ∷ ps)
unfolding of_stream
on_more s p Frame payload ps = same_counts (omega arith) refl
on_more s p Sound payload ps = same_counts refl (omega arith)

-- the counts of a walk are those of the drain of its whole chunks
counts_on : {file : List ℕ} {p : Position} {v : Walk} → ReadWalk file p v → (s : ChunkCounts) → counts_from s v ≡ on_top s (drain_at p (wholes_of v))
unfolding counts_from wholes_of drain_from
counts_on (stops h r) s = on_none s
counts_on (cut_short {kind = kind} {part = part} {missing = missing} h m r) s =
    rw (ne_eqb missing 0 (λ e. omega arith)) (either (recorded kind part missing) s ∙ on_none s)
counts_on {p = p} (whole {kind = kind} {payload = payload} {rest = rest} h r later) s =
    rw (recorded-whole kind payload, drain-cons p kind payload (wholes_of rest))
    (counts_on later (counted kind s) ∙ on_more s p kind payload (drain_at (passed p kind payload) (wholes_of rest)))

-- from the prelude's end on
pub walk_counts : {file : List ℕ} {v : Walk} → ReadWalk file start v → counts_from none_counted v ≡ packet_counts (drain (wholes_of v))
walk_counts r = counts_on r none_counted ∙ same_counts (zero-add (of_stream 0 _)) (zero-add (of_stream 1 _))

plays : (file : List ℕ) → Bytes file → (s : ChunkCounts) → summary_of file ≡ accepted s
    → (ps : List Shown) × (PacketsLeft file fresh ps × (s ≡ packet_counts ps))
unfolding summary_of
plays file bytes s e =
    let a = ask-passed (within_limit file) 10 0 _ e in
    let b = then-accepted (tags_known prelude_len (file_walk file)) (λ _. accepted (counts_from none_counted (file_walk file))) a.1 in
    let fits = leb-true (length file) file_limit a.0 in
    let r = read_walk file bytes fits b.1 in
    (_, (packets-left (reads-drain r false None), sym (accepted-same b.2) ∙ walk_counts r))

-- ---- a finished recording

-- the counts of chunks on top of s
chunks-counted : (s : ChunkCounts) (cs : List Chunk) (n : ℕ)
    → counts_from s (walk_of cs n) ≡ record { frames = s.frames + frames cs; blocks = s.blocks + blocks cs }
unfolding counts_from walk_of frames blocks
chunks-counted s [] n = same_counts (sym (add-zero s.frames)) (sym (add-zero s.blocks))
chunks-counted s (chunk_of Frame payload ∷ cs) n = chunks-counted (counted Frame s) cs n ∙ same_counts (omega arith) refl
chunks-counted s (chunk_of Sound payload ∷ cs) n =
    rw (recorded-whole Sound payload) (chunks-counted (counted Sound s) cs n ∙ same_counts refl (omega arith))

summary-finished : (file : List ℕ) (cs : List Chunk) → Finished file cs → summary_of file ≡ accepted (record { frames = frames cs; blocks = blocks cs })
unfolding summary_of
summary-finished file cs fin =
    rw (le-leb (length file) file_limit fin.fits, finished-walk file cs fin, tags_known_lem prelude_len cs 0)
    (ap accepted (chunks-counted none_counted cs 0 ∙ same_counts (zero-add (frames cs)) (zero-add (blocks cs))))

-- the records of chunks, by their tags
records-tagged : (p : Position) (cs : List Chunk) → record_counts (records_of p cs) ≡ record { frames = frames cs; blocks = blocks cs }
unfolding records_of tagged frames blocks
records-tagged p [] = refl
records-tagged p (chunk_of Frame payload ∷ cs) =
    let r = records-tagged (passed p Frame payload) cs in
    same_counts (ap suc (ap (λ (c : ChunkCounts). c.frames) r)) (ap (λ (c : ChunkCounts). c.blocks) r)
records-tagged p (chunk_of Sound payload ∷ cs) =
    let r = records-tagged (passed p Sound payload) cs in
    same_counts (ap (λ (c : ChunkCounts). c.frames) r) (ap suc (ap (λ (c : ChunkCounts). c.blocks) r))

as_before : (file : List ℕ) (cs : List Chunk) → Finished file cs → summary_of file ≡ and_then (index_of file) (λ es. accepted (record_counts es))
as_before file cs fin = summary-finished file cs fin ∙ rw (index-finished file cs fin) (ap accepted (sym (records-tagged start cs)))

pub summary-is-drain : SummaryIsDrain
summary-is-drain = record { plays = plays; finished = summary-finished; as_before = as_before }
