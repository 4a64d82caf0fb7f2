-- `page::narrow_samples` meets its contract. The invariant of its loop: asking the records that are left is asking all of them (`Asking`).
-- Assumes nothing.
use native.Mathlib.Omega.{arith}
use Rattle.table.proofs.Records.{asking_on, asking_no}
use Rattle.page.proofs.Lines.{narrow_below, narrow-above}
use Rattle.page.proofs.narrow_samples.Goals as goal

pub returns-then-e-ge-SAMPLES_LIMIT : goal.returns-then-e-ge-SAMPLES_LIMIT
returns-then-e-ge-SAMPLES_LIMIT c =
    let s = c.in-Some.ensures.steps in
    asking_no c.loop-number.invariant s.0 (narrow-above c.in-Some.e c.if-e-ge-SAMPLES_LIMIT.true (omega arith)) s.1

pub loop-number-preserved : goal.loop-number-preserved
loop-number-preserved c =
    let s = c.in-Some.ensures.steps in
    asking_on c.loop-number.invariant s.0 (narrow_below c.in-Some.e (omega arith)) s.2
