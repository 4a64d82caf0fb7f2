-- `page::ask_samples` meets its contract. Where the most samples are below the limit every record passes (`each_below`); else each is asked.
-- Assumes nothing.
use mathlib.Core.Path.{sym}
use native.Mathlib.Omega.{arith}
use Rattle.chunk_index.specs.Entry.{entries_of}
use Rattle.table.proofs.Records.{each_below}
use Rattle.page.specs.Page.{narrow_samples}
use Rattle.page.proofs.Lines.{narrow_below}
use Rattle.page.proofs.ask_samples.Goals as goal

pub returns-then-most-lt-SAMPLES_LIMIT : goal.returns-then-most-lt-SAMPLES_LIMIT
returns-then-most-lt-SAMPLES_LIMIT c =
    sym (each_below 1000000000000000000 narrow_samples narrow_below 70 0 0 (entries_of c.args.table.now) (omega arith))
