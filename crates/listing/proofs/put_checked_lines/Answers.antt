-- `listing::put_checked_lines` meets its contract. The check's answer is the definition's, so each arm knows which lines are due. Where it accepts,
-- `join` puts the totals where the chunks' lines end.
-- Assumes nothing.
use mathlib.Core.Path.{sym}
use Rattle.text.proofs.Laws.{join}
use Rattle.listing.proofs.put_checked_lines.Goals as goal

pub returns-in-Ok : goal.returns-in-Ok
returns-in-Ok c = rw (sym c.in-Ok.ensures) (join c.put_chunk_lines.ensures.written c.put_totals_line.ensures.written)
