-- `lines::put_refusal_line` meets its contract. `NO` with its number, the place and the line feed stand end to end, and `join` makes them
-- `refusal_line`.
-- Assumes nothing.
use Rattle.text.proofs.Laws.{join}
use Rattle.lines.specs.Lines.{refusal_line}
use Rattle.lines.proofs.put_refusal_line.Goals as goal

pub returns-clause-written : goal.returns-clause-written
unfolding refusal_line
returns-clause-written c = join c.put_field.ensures.written (join c.put_number.ensures.written c.end_line.ensures.written)
