-- `table::good_entries` meets its contract. The invariant `Passing`: the pass over the records that are left, from the most samples so far on, is the pass over
-- all of them; `passing_on`, `passing_no` and `passing_end` are a turn and its two ends.
-- Assumes nothing.
use Rattle.chunk_index.specs.Entry.{entries_of}
use Rattle.chunk_index.specs.Steps.{entries_on}
use Rattle.table.proofs.Records.{Passing}
use Rattle.table.proofs.good_entries.Given as goal

abbrev pub invariant-loop-number : goal.invariant-loop-number
invariant-loop-number l = Passing l.number-iterator.count l.most (entries_on l.number-iterator.iter.table.now l.number-iterator.iter.number) (entries_of l.table)
