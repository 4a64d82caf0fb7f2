-- `chunk_index::index::count_records` meets its contract. The invariant: the records counted so far and those of the walk from here on are all of
-- them, and the tags from here on are what is left of the question. The measure is the bytes from here on, of which each chunk takes 8.
-- Assumes nothing.
use Prim.Native.Nat.{◌-◌}
use lib.ListN.{length}
use Rattle.chunk_index.proofs.Counting.{Counting}
use Rattle.chunk_index.proofs.index.count_records.Given as goal

abbrev pub invariant-loop-chunk : goal.invariant-loop-chunk
invariant-loop-chunk l = Counting l.file l.at l.count

abbrev pub decreases-loop-chunk : goal.decreases-loop-chunk
decreases-loop-chunk l = length l.file - l.at
