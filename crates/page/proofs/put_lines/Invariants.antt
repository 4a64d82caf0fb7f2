-- `page::put_lines` meets its contract. The invariant of its loop: the records that are left fit their lines, for which there is room, and whoever puts those
-- has put all (`Putting`).
-- Assumes nothing.
use Rattle.chunk_index.specs.Entry.{entries_of}
use Rattle.chunk_index.specs.Steps.{entries_on}
use Rattle.page.proofs.Lines.{Putting}
use Rattle.page.proofs.put_lines.Given as goal

abbrev pub invariant-loop-e : goal.invariant-loop-e
invariant-loop-e l = Putting l.initial.text l.text (entries_on l.e-iterator.table.now l.e-iterator.number) (entries_of l.table)
