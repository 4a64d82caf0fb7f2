-- See Invariants.
use borrow.Author.Tests.{eq-eqb, ne_eqb}
use Rattle.error.proofs.Answers.{passed_on}
use Rattle.chunk.proofs.Interleaves.{interleave_next, interleave-end}
use Rattle.chunk.proofs.interleave.validate_movi_interleave.Goals as goal

pub returns-in_err-interleave_at : goal.returns-in_err-interleave_at
returns-in_err-interleave_at c =
    let l = c.loop-position in
    rw (passed_on _ _ c.from_residual.ensures, ← l.invariant, interleave_next _ l.position c.loop-position-test.true, ← c.in_err-interleave_at.ensures)

pub loop-position-preserved : goal.loop-position-preserved
loop-position-preserved c =
    let l = c.loop-position in
    rw (← l.invariant, interleave_next _ l.position c.loop-position-test.true, ← c.in_ok-interleave_at.ensures)

pub returns-then-count-eq0 : goal.returns-then-count-eq0
returns-then-count-eq0 c =
    let l = c.loop-position in
    rw (← l.invariant, interleave-end _ _ l.auto.position-end c.loop-position-test.false, eq-eqb _ _ c.if-count-eq0.true)

pub returns-else-count-eq0 : goal.returns-else-count-eq0
returns-else-count-eq0 c =
    let l = c.loop-position in
    rw (← l.invariant, interleave-end _ _ l.auto.position-end c.loop-position-test.false, ne_eqb _ _ c.if-count-eq0.false)
