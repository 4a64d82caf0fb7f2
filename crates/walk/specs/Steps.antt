-- Steps on the way: what functions below the calls promise each other. Nothing here need be believed. Assumes nothing.
use Rattle.std.specs.Prelude.{ℕ, ◌+◌, ◌*◌, ◌≤◌, List}
use Rattle.fields.specs.Capped.{u32_max}
use Rattle.chunk.specs.Chunk.{payload_limit}
use Rattle.fields.specs.File.{file_limit}
use Rattle.prelude.specs.Layout.{prelude_len}
use Rattle.demuxer.specs.Head.{count_of}
use Rattle.demuxer.specs.Read.{payload_at}
use Rattle.demuxer.specs.declared.position.Position.{Position}
use Rattle.walk.specs.Walk.{past_by}
use Rattle.walk.specs.declared.ChunkAt.{ChunkAt}

-- past the chunk at a position, as the code goes
abbrev pub past_at : List ℕ → Position → ChunkAt → Position
past_at file p c = past_by p c.kind c.size (count_of (payload_at file p.cursor c.size))

-- what holds of every position of a walk from the prelude's end: a header stood within the limit, each chunk took 8 bytes, and a block took 16
-- for a u32 of samples, since its count is a part of its payload
pub record Walked (p : Position) : Type 0 where
  pub cursor_le : p.cursor ≤ file_limit + payload_limit
  pub chunks_le : prelude_len + 8 * (p.frames.0 + p.blocks.0) ≤ p.cursor
  pub samples_le : 16 * p.samples.0 ≤ u32_max * p.cursor
