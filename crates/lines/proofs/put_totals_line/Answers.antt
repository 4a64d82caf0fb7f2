-- `lines::put_totals_line` meets its contract. Four fields with their names and the paired word stand end to end, and `join` makes them `totals_line`.
-- Assumes nothing.
use Rattle.text.proofs.Laws.{join}
use Rattle.lines.specs.Lines.{totals_line}
use Rattle.lines.proofs.put_totals_line.Goals as goal

pub returns-clause-written : goal.returns-clause-written
unfolding totals_line
returns-clause-written c =
    join c.put_field.ensures.written
    (join c.put_field-2.ensures.written
    (join c.put_field-3.ensures.written (join c.put_field-4.ensures.written c.put_paired.ensures.written)))
