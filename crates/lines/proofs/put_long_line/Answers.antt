-- `lines::put_long_line` meets its contract. The bytes that it puts are `long_line`, unfolded.
-- Assumes nothing.
use Rattle.lines.specs.Lines.{long_line}
use Rattle.lines.proofs.put_long_line.Goals as goal

pub returns-clause-written : goal.returns-clause-written
unfolding long_line
returns-clause-written c = c.put_word.ensures
