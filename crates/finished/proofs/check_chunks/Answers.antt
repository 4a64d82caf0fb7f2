-- `finished::check_chunks` meets its contract. The invariant `Checking`: checking on from here over the rest of the walk is the whole check, and the
-- pairs so far with those of the rest are all of them. The measure is the bytes of the file from here on, of which each chunk takes 8.
-- Assumes nothing.
use mathlib.Core.Path.{sym, ap, ◌∙◌, subst}
use mathlib.Core.Bool.{Bool}
use Prim.Native.Nat.{◌+◌, ◌-◌}
use native.Mathlib.Omega.{arith}
use lib.ListN.{length}
use Rattle.walk.specs.Steps.{Walked}
use Rattle.walk.specs.Walk.{trailer}
use Rattle.walk.specs.declared.Step.TheVariants as step
use Rattle.walk.proofs.Walks.{step_means, past-cursor}
use Rattle.finished.specs.Check.{check_stop, check_chunks}
use Rattle.finished.proofs.Checking.{check-stopped, check-cut, check_on}
use Rattle.finished.proofs.check_chunks.Goals as goal

pub returns-in-RanOut : goal.returns-in-RanOut
returns-in-RanOut c = check-stopped c.loop-chunk.invariant (step_means _ _ step.RanOut (sym c.in-RanOut.ensures)) ∙ ap check_chunks c.bytes-file.ensures.same

pub check_trailer-requires : goal.check_trailer-requires
check_trailer-requires c = (step_means _ _ step.Trailer (sym c.in-Trailer.ensures)).there

pub returns-in-Trailer : goal.returns-in-Trailer
returns-in-Trailer c =
    let l = c.loop-chunk in
    let after = length c.bytes-file.result.now - (l.position.cursor + 8) in
    c.check_trailer.ensures
    ∙ ap (λ (b : Bool). check_stop l.position b (trailer after)) c.paired_all.ensures
    ∙ check-stopped l.invariant (step_means _ _ step.Trailer (sym c.in-Trailer.ensures)).is
    ∙ ap check_chunks c.bytes-file.ensures.same

pub returns-in-UnknownTag : goal.returns-in-UnknownTag
returns-in-UnknownTag c = check-stopped c.loop-chunk.invariant (step_means _ _ step.UnknownTag (sym c.in-UnknownTag.ensures)) ∙ ap check_chunks c.bytes-file.ensures.same

pub returns-then-chunk-ne0 : goal.returns-then-chunk-ne0
returns-then-chunk-ne0 c = check-cut c.loop-chunk.invariant (step_means _ _ _ (sym c.in-Chunk.ensures)) c.if-chunk-ne0.true ∙ ap check_chunks c.bytes-file.ensures.same

pub past-position-requires-clause-cursor_in_bounds : goal.past-position-requires-clause-cursor_in_bounds
past-position-requires-clause-cursor_in_bounds c = (step_means _ _ (step.Chunk c.in-Chunk.chunk) (sym c.in-Chunk.ensures)).there

pub loop-chunk-smaller : goal.loop-chunk-smaller
loop-chunk-smaller c =
    let l = c.loop-chunk in
    let file = c.bytes-file.result.now in
    let g = step_means _ _ (step.Chunk c.in-Chunk.chunk) (sym c.in-Chunk.ensures) in
    rw c.past-position.ensures.0 (omega (arith, g.there, past-cursor file l.position c.in-Chunk.chunk))

pub loop-chunk-preserved : goal.loop-chunk-preserved
loop-chunk-preserved c =
    let l = c.loop-chunk in
    let g = step_means _ _ (step.Chunk c.in-Chunk.chunk) (sym c.in-Chunk.ensures) in
    rw (c.past-position.ensures.0, c.paired_on-paired.ensures, c.tag.ensures)
    (check_on l.invariant g c.if-chunk-ne0.false (subst Walked c.past-position.ensures.0 c.past-position.ensures.1))
