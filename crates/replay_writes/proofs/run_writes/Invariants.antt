-- `replay_writes::run_writes` meets its contracts. The loop's invariant: from the state and the buffer as they are, the calls that are left
-- give what the whole list gives from the fresh state; so demand 3 holds of the verdicts and the buffer. Assumes nothing.
use Rattle.rows.proofs.Laws.{Going}
use Rattle.replay_writes.specs.Replay.{lists, call_at, step}
use Rattle.replay_writes.proofs.run_writes.Given as goal

abbrev pub invariant-loop-i : goal.invariant-loop-i
invariant-loop-i l =
    Going step 2 (call_at (lists l.kinds l.streams l.starts l.lens l.payloads)) l.count
    (record { writer = l.initial.writer; buffer = l.initial.buf }) l.initial.verdicts
    (record { writer = l.writer; buffer = l.buf }) l.verdicts l.i
