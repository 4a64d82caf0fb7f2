-- `chunk_index::index::write_records` meets its contract. The invariant: putting the records of the walk from here on at `to` makes the whole
-- table, which has room for them. The measure is the bytes of the file from here on, of which each chunk takes 8.
-- Assumes nothing.
use Prim.Native.Nat.{◌-◌}
use lib.ListN.{length}
use Rattle.chunk_index.proofs.Writing.{Writing}
use Rattle.chunk_index.proofs.index.write_records.Given as goal

abbrev pub invariant-loop-chunk : goal.invariant-loop-chunk
invariant-loop-chunk l = Writing l.file l.initial.table l.table l.position l.to

abbrev pub decreases-loop-chunk : goal.decreases-loop-chunk
decreases-loop-chunk l = length l.file - l.position.cursor
