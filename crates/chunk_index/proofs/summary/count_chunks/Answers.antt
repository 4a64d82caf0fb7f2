-- `chunk_index::summary::count_chunks` meets its contract. The invariant: counting on from here over the rest of the walk gives all the counts,
-- and the tags from here on are what is left of the question. The measure is the bytes from here on, of which each chunk takes 8.
-- Assumes nothing.
use Rattle.std.proofs.Common.{◌≡◌, ◌<◌, arith, sym, ap, ◌∙◌}
use Rattle.chunk_index.specs.Steps.{count_chunks}
use Rattle.walk.specs.declared.Step.TheVariants as step
use Rattle.walk.proofs.Walks.{step_means}
use Rattle.chunk_index.proofs.Counting.{ended, headers_stop, headers_ended}
use Rattle.chunk_index.proofs.Folds.{known-cut}
use Rattle.chunk_index.proofs.Summing.{summing_on, summed_stop, summed_cut}
use Rattle.chunk_index.proofs.summary.count_chunks.Goals as goal

pub returns-in-RanOut : goal.returns-in-RanOut
returns-in-RanOut c =
    let l = c.loop-chunk in
    let w = ended _ _ (sym c.step_at.ensures) c.in-RanOut.is in
    headers_ended l.invariant.headers l.counts _ w (summed_stop l.invariant w.is) ∙ ap count_chunks c.bytes-file.ensures.same

pub returns-in-UnknownTag : goal.returns-in-UnknownTag
returns-in-UnknownTag c =
    let l = c.loop-chunk in
    let w = step_means _ _ step.UnknownTag (sym c.in-UnknownTag.ensures) in
    headers_stop l.invariant.headers l.counts _ w (summed_stop l.invariant w) ∙ ap count_chunks c.bytes-file.ensures.same

pub returns-then-chunk-gt0 : goal.returns-then-chunk-gt0
returns-then-chunk-gt0 c =
    let l = c.loop-chunk in
    let cut : 0 < c.in-Chunk.chunk.missing = omega (arith, c.if-chunk-gt0.true) in
    let g = step_means _ _ _ (sym c.in-Chunk.ensures) in
    rw (← c.bytes-file.ensures.same, ← l.invariant.headers.known, known-cut _ _ _ g cut, summed_cut l.invariant g cut)

pub loop-chunk-smaller : goal.loop-chunk-smaller
loop-chunk-smaller c = omega (arith, (step_means _ _ _ (sym c.in-Chunk.ensures)).there)

pub loop-chunk-preserved : goal.loop-chunk-preserved
loop-chunk-preserved c =
    let l = c.loop-chunk in
    let whole : c.in-Chunk.chunk.missing ≡ 0 = omega (arith, c.if-chunk-gt0.false) in
    rw (c.advance_total.ensures, c.counted-counts.ensures) (summing_on l.invariant (omega arith) (omega arith) (step_means _ _ _ (sym c.in-Chunk.ensures)) whole)
