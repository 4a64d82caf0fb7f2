-- `replay_writes::run_writes` meets its contracts, by the loop's invariant (Invariants). Assumes nothing.
use mathlib.Core.Path.{ap, ◌∙◌, subst}
use native.Mathlib.Omega.{arith}
use Prim.Native.Nat.{◌*◌}
use lib.ListN.{get_or}
use Rattle.std.proofs.Common.{rules}
use Rattle.fields.specs.Le.{put}
use Rattle.muxer.specs.Writer.{MeetsOutcome}
use Rattle.recording.specs.WriteLists.{WriteCall, write_step, Held}
use Rattle.replay_writes.specs.Replay.{lists, call_of}
use Rattle.replay_writes.proofs.Going.{writing_on, writing-last}
use Rattle.replay_writes.proofs.Verdicts.{agreed}
use Rattle.replay_writes.proofs.run_writes.Goals as goal

pub loop-i-preserved : goal.loop-i-preserved
loop-i-preserved c =
    let a = c.args in
    let l = c.loop-i in
    let wrote = c.run-wrote in
    let call = c.of-call.ensures ∙ ap (call_of (get_or a.kinds.now l.i 0) (get_or a.streams.now l.i 0)) c.payload_in.ensures in
    writing_on (lists a.kinds.now a.streams.now a.starts.now a.lens.now a.payloads.now) _ _ _ l.invariant c.loop-i-test.true wrote.result _
    (subst (λ (x : WriteCall). MeetsOutcome (write_step l.writer l.buf x) wrote.result wrote.new.buf) call wrote.ensures)
    (c.put_row.ensures ∙ ap (put l.verdicts (l.i * 2)) c.verdict.ensures)

pub returns-clause-replayed : goal.returns-clause-replayed
returns-clause-replayed c =
    let a = c.args in
    let calls = lists a.kinds.now a.streams.now a.starts.now a.lens.now a.payloads.now in
    (search rules, writing-last calls _ _ _ c.loop-i.invariant (omega arith) a.settings c.new-writer.ensures)

pub returns-clause-kept : goal.returns-clause-kept
returns-clause-kept c =
    let a = c.args in
    let calls = lists a.kinds.now a.streams.now a.starts.now a.lens.now a.payloads.now in
    let run = writing-last calls _ _ _ c.loop-i.invariant (omega arith) a.settings c.new-writer.ensures in
    let held : Held a.settings =
    record { width_held = omega arith; height_held = omega arith; fps_held = omega arith; rate_held = omega arith } in
    agreed a.settings held _ _ calls _ run
