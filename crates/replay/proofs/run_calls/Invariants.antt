-- `replay::run_calls` meets its contracts. The loop's invariant: the rows so far say the answers so far, and the calls that are left give
-- the rest; so the rows are those of the whole list, of which demand 3 holds. Assumes nothing.
use Rattle.replay.proofs.Going.{Replaying}
use Rattle.replay.proofs.run_calls.Given as goal

abbrev pub invariant-loop-i : goal.invariant-loop-i
invariant-loop-i l = Replaying l.file l.table l.kinds l.streams l.requests l.count l.initial.rows l.walker l.rows l.i
