-- `listing::put_chunk_lines` meets its contract. The invariant of its loop: whoever puts the lines that are left has put all of them (`Listing`). The
-- measure is the bytes of the file from here on. A step of the walk is one more line (`listing_more`) or the end.
-- Assumes nothing.
use Prim.Native.Nat.{◌-◌}
use lib.ListN.{length}
use Rattle.listing.proofs.Turns.{Listing}
use Rattle.listing.proofs.put_chunk_lines.Given as goal

abbrev pub invariant-loop-chunk : goal.invariant-loop-chunk
invariant-loop-chunk l = Listing l.file l.initial.text l.text l.position

abbrev pub decreases-loop-chunk : goal.decreases-loop-chunk
decreases-loop-chunk l = length l.file - l.position.cursor
