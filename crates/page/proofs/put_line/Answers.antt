-- `page::put_line` meets its contract. Each call writes where the one before it ended, so `join` makes one word of the four, and that word is `page_line`;
-- each number fits its columns (`narrow`).
-- Assumes nothing.
use native.Mathlib.Omega.{arith}
use Rattle.text.proofs.Laws.{join}
use Rattle.page.specs.Page.{page_line}
use Rattle.page.proofs.Lines.{narrow}
use Rattle.page.proofs.put_line.Goals as goal

pub put_right-requires-clause-n_len_bound : goal.put_right-requires-clause-n_len_bound
put_right-requires-clause-n_len_bound c = (narrow c.args.e c.requires.fits).offset

pub put_right-requires-2-clause-n_len_bound : goal.put_right-requires-2-clause-n_len_bound
put_right-requires-2-clause-n_len_bound c = (narrow c.args.e c.requires.fits).frames

pub put_right-requires-3-clause-n_len_bound : goal.put_right-requires-3-clause-n_len_bound
put_right-requires-3-clause-n_len_bound c = omega (arith, (narrow c.args.e c.requires.fits).samples)

pub returns-clause-written : goal.returns-clause-written
unfolding page_line
returns-clause-written c =
    join c.put_kind.ensures.written
    (join c.put_right.ensures.written (join c.put_right-2.ensures.written c.put_right-3.ensures.written))
