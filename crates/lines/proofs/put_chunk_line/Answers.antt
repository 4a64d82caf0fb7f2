-- `lines::put_chunk_line` meets its contract. Each call writes where the one before it ended, so `join` makes one word of the six, and that word is
-- `chunk_line`.
-- Assumes nothing.
use Rattle.text.proofs.Laws.{join}
use Rattle.lines.specs.Lines.{chunk_line}
use Rattle.lines.proofs.put_chunk_line.Goals as goal

pub returns-clause-written : goal.returns-clause-written
unfolding chunk_line
returns-clause-written c =
    join c.put_kind.ensures.written
    (join c.put_number.ensures.written
    (join c.put_number-2.ensures.written
    (join c.put_number-3.ensures.written (join c.put_number-4.ensures.written c.end_line.ensures.written))))
