-- `prelude::prelude::AmvPrelude::parse_strict` meets its contract. What was parsed has a whole prelude, which `validated` requires.
-- Assumes nothing.
use Rattle.std.proofs.Common.{sym}
use Rattle.prelude.proofs.Layouts.{parsed-length}
use Rattle.prelude.proofs.prelude.AmvPrelude.parse_strict.Goals as goal

pub validated-requires : goal.validated-requires
validated-requires c = parsed-length _ (sym c.in_ok-parse.ensures)
