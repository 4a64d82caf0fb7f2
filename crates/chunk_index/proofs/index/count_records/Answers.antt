-- `chunk_index::index::count_records` meets its contract. The invariant: the records counted so far and those of the walk from here on are all of
-- them, and the tags from here on are what is left of the question. The measure is the bytes from here on, of which each chunk takes 8.
-- Assumes nothing.
use mathlib.Core.Path.{sym, ap, ◌∙◌}
use Rattle.chunk_index.specs.Steps.{count_records}
use native.Mathlib.Omega.{arith}
use Rattle.walk.specs.declared.Step.TheVariants as step
use Rattle.walk.proofs.Walks.{step_means}
use Rattle.chunk_index.proofs.Counting.{ended, headers_stop, headers_ended, headers_end, counting_start, counting_on, counted_stop, counted-end}
use Rattle.chunk_index.proofs.index.count_records.Goals as goal

pub loop-chunk-init : goal.loop-chunk-init
loop-chunk-init c = counting_start _

pub returns-in-RanOut : goal.returns-in-RanOut
returns-in-RanOut c =
    let l = c.loop-chunk in
    let w = ended _ _ (sym c.step_at.ensures) c.in-RanOut.is in
    headers_ended l.invariant.headers l.count _ w (counted_stop l.invariant w.is) ∙ ap count_records c.bytes-file.ensures.same

pub returns-in-UnknownTag : goal.returns-in-UnknownTag
returns-in-UnknownTag c =
    let l = c.loop-chunk in
    let w = step_means _ _ step.UnknownTag (sym c.in-UnknownTag.ensures) in
    headers_stop l.invariant.headers l.count _ w (counted_stop l.invariant w) ∙ ap count_records c.bytes-file.ensures.same

pub returns-then-not-recorded : goal.returns-then-not-recorded
returns-then-not-recorded c =
    let l = c.loop-chunk in
    let r = sym c.recorded.ensures ∙ c.if-not-recorded.true in
    headers_end l.invariant.headers l.count _ (step_means _ _ _ (sym c.in-Chunk.ensures)) r (counted-end l.invariant (step_means _ _ _ (sym c.in-Chunk.ensures)) r)
    ∙ ap count_records c.bytes-file.ensures.same

pub loop-chunk-smaller : goal.loop-chunk-smaller
loop-chunk-smaller c = omega (arith, (step_means _ _ _ (sym c.in-Chunk.ensures)).there)

pub loop-chunk-preserved : goal.loop-chunk-preserved
loop-chunk-preserved c =
    let l = c.loop-chunk in
    rw c.advance_total.ensures
    (counting_on l.invariant (omega arith) (omega arith) (step_means _ _ _ (sym c.in-Chunk.ensures)) (sym c.recorded.ensures ∙ c.if-not-recorded.false))
