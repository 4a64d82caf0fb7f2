-- `play::play` meets its contract. `played_step` takes one read off; the check closes the loop that has used up all by
-- `played_none`. Assumes nothing.
use Rattle.std.proofs.Common.{sym, ap, ◌∙◌, Ok}
use Rattle.play.proofs.Laws.{played_step}
use Rattle.play.proofs.play.Goals as goal

pub loop-preserved : goal.loop-preserved
loop-preserved g c = (
  c.next_packet.ensures.2 ∙ c.loop.invariant.0,
  sym (played_step _ _ _ _ _ _ c.loop.invariant.0 c.loop-test.true c.next_packet.ensures _ (c.in-Ok-Some.is ∙ ap Ok c.in-Ok-Some.field-0-is))
      ∙ c.loop.invariant.1,
)

pub returns-in-Ok-None-clause-walker : goal.returns-in-Ok-None-clause-walker
returns-in-Ok-None-clause-walker g c =
    sym (played_step _ _ _ _ _ _ c.loop.invariant.0 c.loop-test.true c.next_packet.ensures _ (c.in-Ok-None.is ∙ ap Ok c.in-Ok-None.field-0-is))
    ∙ c.loop.invariant.1

pub returns-in-Err-clause-walker : goal.returns-in-Err-clause-walker
returns-in-Err-clause-walker g c =
    sym (played_step _ _ _ _ _ _ c.loop.invariant.0 c.loop-test.true c.next_packet.ensures _ c.in-Err.is) ∙ c.loop.invariant.1
