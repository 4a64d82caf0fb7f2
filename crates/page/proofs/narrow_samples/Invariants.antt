-- `page::narrow_samples` meets its contract. The invariant of its loop: asking the records that are left is asking all of them (`Asking`).
-- Assumes nothing.
use Rattle.chunk_index.specs.Entry.{entries_of}
use Rattle.chunk_index.specs.Steps.{entries_on}
use Rattle.table.proofs.Records.{Asking}
use Rattle.page.specs.Page.{narrow_samples}
use Rattle.page.proofs.narrow_samples.Given as goal

abbrev pub invariant-loop-number : goal.invariant-loop-number
invariant-loop-number l =
    Asking narrow_samples 70 l.number-iterator.count (entries_on l.number-iterator.iter.table.now l.number-iterator.iter.number) (entries_of l.table)
