-- `chunk::ChunkHeader::parse_at` meets its contract. The two tests decide by subtraction whether 8 bytes are left, as `header_out` and `header-there` ask;
-- past them the two reads give the tag and the length.
-- Assumes nothing.
use mathlib.Core.Path.{sym}
use native.Mathlib.Omega.{arith}
use Rattle.chunk.proofs.Headers.{header_out, header-there}
use Rattle.chunk.proofs.ChunkHeader.parse_at.Goals as goal

pub returns-then-file-lt8 : goal.returns-then-file-lt8
returns-then-file-lt8 c = let a = c.args in sym (header_out a.file.now a.at (omega arith))

pub returns-then-file-at : goal.returns-then-file-at
returns-then-file-at c = let a = c.args in sym (header_out a.file.now a.at (omega arith))

pub returns : goal.returns
returns c =
    let a = c.args in
    sym (header-there a.file.now a.at (omega arith) c.read_le-tag.ensures c.read_le-size.ensures)
