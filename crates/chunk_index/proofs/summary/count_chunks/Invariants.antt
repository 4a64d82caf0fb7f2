-- `chunk_index::summary::count_chunks` meets its contract. The invariant: counting on from here over the rest of the walk gives all the counts,
-- and the tags from here on are what is left of the question. The measure is the bytes from here on, of which each chunk takes 8.
-- Assumes nothing.
use Prim.Native.Nat.{◌-◌}
use lib.ListN.{length}
use Rattle.chunk_index.proofs.Summing.{Summing}
use Rattle.chunk_index.proofs.summary.count_chunks.Given as goal

abbrev pub invariant-loop-chunk : goal.invariant-loop-chunk
invariant-loop-chunk l = Summing l.file l.at l.counts

abbrev pub decreases-loop-chunk : goal.decreases-loop-chunk
decreases-loop-chunk l = length l.file - l.at
