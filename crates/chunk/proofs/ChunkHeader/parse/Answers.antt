-- `chunk::ChunkHeader::parse` meets its contract. A slice's header is that at offset 0, by `header_at`.
-- Assumes nothing.
use mathlib.Core.Path.{◌∙◌}
use Rattle.chunk.proofs.Headers.{header_at}
use Rattle.chunk.proofs.ChunkHeader.parse.Goals as goal

pub returns : goal.returns
returns c = c.parse_at.ensures ∙ header_at c.args.slice.now 0
