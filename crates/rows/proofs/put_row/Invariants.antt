-- `rows::put_row` meets its contract. The invariant of its loop: the numbers so far are put; `put_more` is a turn. Assumes nothing.
use Rattle.std.proofs.Common.{◌≡◌}
use lib.ListN.{take}
use Rattle.fields.specs.Le.{put}
use Rattle.rows.proofs.put_row.Given as goal

abbrev pub invariant-loop-k : goal.invariant-loop-k
invariant-loop-k g l = l.rows ≡ put l.initial.rows l.at (take l.k l.row)
