-- Steps on the way: what functions below the calls promise each other. Nothing here need be believed. Assumes nothing.
use Rattle.std.specs.Prelude.{ℕ, ◌+◌, cond, List, leb, length}
use Rattle.std.specs.Prelude.{Option, Some, None}
use Rattle.chunk.specs.declared.ChunkHeader.{ChunkHeader}
use Rattle.demuxer.specs.Head.{is_trailer, chunk_head}
use Rattle.demuxer.specs.declared.head.Head.{Head}
use Rattle.demuxer.specs.declared.head.Head.TheVariants as head

-- what a header is taken for: the trailer or a chunk's
abbrev pub from_header : ChunkHeader → Head
from_header h = cond (is_trailer h.tag h.size) head.Trailer (chunk_head h.tag h.size)

-- is the payload whole?
unfoldable pub body_at : List ℕ → ℕ → ℕ → Option (ℕ × ℕ)
body_at file start size = cond (leb (start + size) (length file)) (Some (start, size)) None
