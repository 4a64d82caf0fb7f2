-- `lines::put_field` meets its contract. The number is put where the name ends, and `join` makes the two one word.
-- Assumes nothing.
use Rattle.text.proofs.Laws.{join}
use Rattle.lines.proofs.put_field.Goals as goal

pub returns-clause-written : goal.returns-clause-written
returns-clause-written c = join c.put_word.ensures c.put_number.ensures.written
