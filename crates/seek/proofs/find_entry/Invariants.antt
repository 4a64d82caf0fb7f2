-- `seek::find_entry` meets its contract. The invariant of its loop: searching the records of the bytes that are left is searching all of them, and offset
-- and rest add up to the table's length. The measure is the rest; `find_on`, `find_here` and `entries_off` are a turn and its two ends.
-- Assumes nothing.
use mathlib.Core.Path.{◌≡◌}
use Prim.Native.Nat.{◌+◌, ◌/◌}
use lib.IntN.{pos}
use lib.ListN.{length}
use Rattle.chunk_index.specs.Entry.{entry_len, entries_from, entries_of}
use Rattle.seek.specs.Seek.{find}
use Rattle.seek.proofs.find_entry.Given as goal

abbrev pub invariant-loop-left : goal.invariant-loop-left
invariant-loop-left l =
    (l.at + l.left ≡ length l.table)
    × (find l.stream (pos l.request) (entries_from (l.left / entry_len) l.table l.at) ≡ find l.stream (pos l.request) (entries_of l.table))

abbrev pub decreases-loop-left : goal.decreases-loop-left
decreases-loop-left l = l.left
