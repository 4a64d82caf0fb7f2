-- `replay::run_calls` meets its contracts, by the loop's invariant (Invariants). A call's request is read back as the one that was passed, since it
-- fits. Assumes nothing.
use mathlib.Core.Path.{ap, ◌∙◌, subst}
use native.Mathlib.Omega.{arith}
use Prim.Native.Nat.{◌*◌}
use mir.Syntax.{w64}
use mir.ValLaws.{to_z-of_z}
use lib.IntN.{ℤ, pos}
use lib.ListN.{get_or}
use Rattle.std.proofs.Common.{rules}
use Rattle.fields.specs.Le.{Bytes, put}
use Rattle.recording.specs.Machine.{Call}
use Rattle.replay.specs.Replay.{call_of}
use Rattle.replay.specs.Steps.{Answered}
use Rattle.replay.proofs.Going.{replaying_on, replaying_last, agreed}
use Rattle.replay.proofs.run_calls.Goals as goal

pub loop-i-preserved : goal.loop-i-preserved
loop-i-preserved c =
    let l = c.loop-i in
    let a = c.args in
    let request : ℤ = get_or a.requests.now l.i (pos 0) in
    let call = c.of-call.ensures ∙ ap (call_of (get_or a.kinds.now l.i 0) (get_or a.streams.now l.i 0)) (to_z-of_z w64 request (search rules)) in
    replaying_on _ _ _ _ _ _ _ l.invariant c.loop-i-test.true c.run.result
    (subst (λ (x : Call). Answered a.file.now a.table.now l.walker x c.run.result) call c.run.ensures)
    (c.put_row.ensures ∙ ap (put l.rows (l.i * 6)) c.words.ensures)

pub returns-clause-replayed : goal.returns-clause-replayed
returns-clause-replayed c = (search rules, replaying_last _ _ _ _ _ _ _ c.loop-i.invariant (omega arith))

pub returns-clause-compared : goal.returns-clause-compared
returns-clause-compared c =
    let all : Bytes c.args.file.now = unfold Bytes in λ k. omega (arith, c.type_inv.file k) in
    λ own. agreed _ _ _ _ _ (replaying_last _ _ _ _ _ _ _ c.loop-i.invariant (omega arith)) all own
