-- Steps on the way: what functions below the call promise each other. Nothing here need be believed. Assumes nothing.
use Rattle.std.specs.Prelude.{◌<◌}
use Rattle.chunk_index.specs.Steps.{Small}
use Rattle.chunk_index.specs.declared.entry.ChunkIndexEntry.{ChunkIndexEntry}

-- what the line of a record can hold
pub record Fits (e : ChunkIndexEntry) : Type 0 where
  pub small : Small e.position
  pub samples_narrow : e.position.samples.0 < 1000000000000000000
