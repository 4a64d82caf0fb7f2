-- What the summary counts: M-103 of document 02, as claims. Assumes nothing.
use Rattle.std.specs.Prelude.{◌≡◌, ℕ, suc, cond, List, [], ◌∷◌, eqb}
use Rattle.error.specs.Answer.{accepted, and_then}
use Rattle.fields.specs.Le.{Bytes}
use Rattle.demuxer.specs.Packet.{Shown}
use Rattle.demuxer.specs.Read.{fresh}
use Rattle.walk.specs.Chunks.{Chunk}
use Rattle.chunk_index.specs.Index.{index_of}
use Rattle.chunk_index.specs.Sentences.{record_counts}
use Rattle.chunk_index.specs.Summary.{summary_of}
use Rattle.chunk_index.specs.declared.summary.ChunkCounts.{ChunkCounts}
use Rattle.recording.specs.Grammar.{Finished}
use Rattle.recording.specs.Drain.{frames, blocks}
use Rattle.recording.specs.Machine.{PacketsLeft}

-- how many packets have a stream
unfoldable pub of_stream : ℕ → List Shown → ℕ
of_stream stream [] = 0
of_stream stream (p ∷ ps) = cond (eqb p.stream stream) (suc (of_stream stream ps)) (of_stream stream ps)

-- the counts of packets: those of pictures and those of sound
abbrev pub packet_counts : List Shown → ChunkCounts
packet_counts ps = record { frames = of_stream 0 ps; blocks = of_stream 1 ps }

pub record SummaryIsDrain : Type 0 where
  -- the summary shows no more than "the display can play": of every file it accepts, reads from a fresh walker give, until their first End, as
  -- many packets of each stream
  pub plays : (file : List ℕ) → Bytes file → (s : ChunkCounts) → summary_of file ≡ accepted s
      → (ps : List Shown) × (PacketsLeft file fresh ps × (s ≡ packet_counts ps))
  -- "On finished recordings the totals are the old ones": the drain's ..
  pub finished : (file : List ℕ) (cs : List Chunk) → Finished file cs → summary_of file ≡ accepted (record { frames = frames cs; blocks = blocks cs })
  -- .. and 01's, "counts of the records its index walk makes"
  pub as_before : (file : List ℕ) (cs : List Chunk) → Finished file cs → summary_of file ≡ and_then (index_of file) (λ es. accepted (record_counts es))
