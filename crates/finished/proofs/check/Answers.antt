-- `finished::check` meets its contract. The limit is asked once more by the strict parse, which is why a file over it is refused alike (`check_limit`).
-- Assumes nothing.
use Rattle.std.proofs.Common.{sym}
use Rattle.finished.proofs.Checking.{check_limit}
use Rattle.finished.proofs.check.Goals as goal

pub returns-in_default : goal.returns-in_default
returns-in_default c = sym (check_limit c.args.file.now c.in_default.ensures)
