-- `lines::put_number` meets its contract. `join` makes one word of the space and of the array from the first digit on, which by `part` are the digits
-- that `put_digits` put there: 20 at most (`digits-most`).
-- Assumes nothing.
use Rattle.text.proofs.Digits.{digits-most}
use Rattle.text.proofs.Laws.{join, part}
use Rattle.lines.proofs.put_number.Goals as goal

pub put_digits-start-requires-clause-n_len_bound : goal.put_digits-start-requires-clause-n_len_bound
put_digits-start-requires-clause-n_len_bound c = digits-most 20 c.args.n

pub returns-clause-written : goal.returns-clause-written
returns-clause-written c = rw (← part c.put_digits-start.ensures) (join c.put_word.ensures c.put_word-2.ensures)
