-- Steps on the way: what functions below the calls promise each other. Nothing here need be believed. Assumes nothing.
use Rattle.std.specs.Prelude.{ℕ, ◌+◌, ◌-◌, ◌*◌, ◌/◌, ◌≤◌, min, Bool, true, List, leb, length}
use Rattle.error.specs.Answer.{Answer, accepted, and_then}
use Rattle.fields.specs.Capped.{u32_max}
use Rattle.prelude.specs.Layout.{prelude_len}
use Rattle.demuxer.specs.Position.{start}
use Rattle.demuxer.specs.declared.position.Position.{Position}
use Rattle.walk.specs.Walk.{file_walk}
use Rattle.walk.specs.declared.ChunkAt.{ChunkAt}
use Rattle.walk.specs.declared.Kind.{Kind}
use Rattle.walk.specs.declared.Kind.TheVariants.{Frame, Sound}
use Rattle.chunk_index.specs.Entry.{entry_len, entries_from}
use Rattle.chunk_index.specs.Index.{records, tags_known}
use Rattle.chunk_index.specs.Summary.{none_counted, counts_from}
use Rattle.chunk_index.specs.declared.entry.ChunkIndexEntry.{ChunkIndexEntry}
use Rattle.chunk_index.specs.declared.summary.ChunkCounts.{ChunkCounts}

-- whether a chunk gets a record, by its length and what is missing of it
abbrev pub recorded_by : Kind → ℕ → ℕ → Bool
recorded_by Frame size missing = true
recorded_by Sound size missing = leb (min 8 size + missing) size

abbrev pub recorded_at : ChunkAt → Bool
recorded_at c = recorded_by c.kind c.size c.missing

-- what the three 32-bit fields of a record can hold
pub record Small (p : Position) : Type 0 where
  pub cursor_small : p.cursor ≤ u32_max
  pub frames_small : p.frames.0 ≤ u32_max
  pub blocks_small : p.blocks.0 ≤ u32_max

-- the records of a table from one of a number on, as the iterator over them has them left
abbrev pub entries_on : List ℕ → ℕ → List ChunkIndexEntry
entries_on table number = entries_from (length table / entry_len - number) table (number * entry_len)

-- what the first pass answers: how many records the walk makes, or that a tag is unknown
abbrev pub count_records : List ℕ → Answer ℕ
count_records file = and_then (tags_known prelude_len (file_walk file)) (λ _. accepted (length (records start (file_walk file))))

-- what the summary's pass answers: the counts, or that a tag is unknown
abbrev pub count_chunks : List ℕ → Answer ChunkCounts
count_chunks file = and_then (tags_known prelude_len (file_walk file)) (λ _. accepted (counts_from none_counted (file_walk file)))
