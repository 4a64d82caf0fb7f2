-- `finished::check_chunks` meets its contract. The invariant `Checking`: checking on from here over the rest of the walk is the whole check, and the
-- pairs so far with those of the rest are all of them. The measure is the bytes of the file from here on, of which each chunk takes 8.
-- Assumes nothing.
use Prim.Native.Nat.{◌-◌}
use lib.ListN.{length}
use Rattle.finished.proofs.Checking.{Checking}
use Rattle.finished.proofs.check_chunks.Given as goal

abbrev pub invariant-loop-chunk : goal.invariant-loop-chunk
invariant-loop-chunk l = Checking l.file l.position l.paired

abbrev pub decreases-loop-chunk : goal.decreases-loop-chunk
decreases-loop-chunk l = length l.file - l.position.cursor
