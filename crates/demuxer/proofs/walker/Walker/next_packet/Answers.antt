-- `demuxer::walker::Walker::next_packet` meets its contract. Past the questions the position is in range: `range_facts`.
-- Assumes nothing.
use Rattle.std.proofs.Common.{sym, ◌∙◌}
use Rattle.demuxer.proofs.Ranges.{range_facts}
use Rattle.demuxer.proofs.walker.Walker.next_packet.Goals as goal

pub read_chunk-requires : goal.read_chunk-requires
read_chunk-requires c = range_facts _ (sym c.in_range.ensures ∙ c.if-not-in_range.false)
