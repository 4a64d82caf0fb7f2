-- `prelude::prelude::require_all_zero` meets its contract. The invariant of its loop: asking the bytes from a place on is asking all of them. `zeros_on`
-- and `zeros-no` are a turn.
-- Assumes nothing.
use Rattle.std.proofs.Common.{◌≡◌, ◌+◌, ◌-◌}
use Rattle.prelude.specs.Prelude.{zeros}
use Rattle.prelude.proofs.prelude.require_all_zero.Given as goal

abbrev pub invariant-loop-at : goal.invariant-loop-at
invariant-loop-at l = zeros l.file l.at (l.place + l.len - l.at) ≡ zeros l.file l.place l.len
