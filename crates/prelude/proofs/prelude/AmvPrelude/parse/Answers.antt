-- `prelude::prelude::AmvPrelude::parse` meets its contract. A layout that passes is a file with a whole prelude, which `read` requires.
-- Assumes nothing.
use Rattle.std.proofs.Common.{sym}
use Rattle.prelude.proofs.Layouts.{layout-length}
use Rattle.prelude.proofs.prelude.AmvPrelude.parse.Goals as goal

pub read-requires : goal.read-requires
read-requires c = layout-length _ (sym c.in_ok-require_layout.ensures)
