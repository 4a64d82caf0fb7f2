-- `chunk::interleave::validate_movi_interleave` meets its contract. The invariant of its loop: what the definition asks from a position on is what it
-- asks of the whole list. At the end only the parity of the count is left.
-- Assumes nothing.
use Rattle.std.proofs.Common.{◌≡◌}
use lib.ListN.{drop}
use Rattle.chunk.specs.Interleave.{interleave, interleave_from}
use Rattle.chunk.proofs.interleave.validate_movi_interleave.Given as goal

abbrev pub invariant-loop-position : goal.invariant-loop-position
invariant-loop-position l = interleave_from l.position (drop l.position l.tags) ≡ interleave l.tags
