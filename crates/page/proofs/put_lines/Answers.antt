-- `page::put_lines` meets its contract. The invariant of its loop: the records that are left fit their lines, for which there is room, and whoever puts those
-- has put all (`Putting`). What is lent is bytes.
-- Assumes nothing.
use native.Mathlib.Omega.{arith}
use mathlib.Core.Path.{ap, ◌∙◌}
use Rattle.fields.specs.Le.{Bytes}
use Rattle.chunk_index.specs.Steps.{entries_on}
use Rattle.chunk_index.specs.declared.entry.Entries.{Entries}
use Rattle.page.proofs.Lines.{putting_start, putting_on}
use Rattle.page.proofs.put_lines.Goals as goal

pub loop-e-init : goal.loop-e-init
unfolding Bytes
loop-e-init c =
    putting_start c.args.table.now (λ k. omega (arith, c.type_inv.table k)) c.requires.table_in_bounds c.requires.table_value
    (ap (λ (s : Entries). entries_on s.table.now s.number) c.into_iter-e-iterator.ensures.into_iter_gives ∙ c.of-e-items.ensures.entries)

pub loop-e-preserved : goal.loop-e-preserved
loop-e-preserved c = putting_on c.loop-e.invariant c.in-Some.ensures.steps c.put_line.ensures.written c.put_line.ensures.value
