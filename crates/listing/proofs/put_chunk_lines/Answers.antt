-- `listing::put_chunk_lines` meets its contract. The invariant of its loop: whoever puts the lines that are left has put all of them (`Listing`). The
-- measure is the bytes of the file from here on. A step of the walk is one more line (`listing_more`) or the end.
-- Assumes nothing.
use mathlib.Core.Path.{sym, subst}
use native.Mathlib.Omega.{arith}
use Rattle.walk.specs.Steps.{Walked}
use Rattle.walk.specs.declared.Step.TheVariants as step
use Rattle.walk.proofs.Walks.{step_means, stopped, past-cursor}
use Rattle.listing.proofs.Turns.{lines-stop, listing_ends, listing_more}
use Rattle.listing.proofs.put_chunk_lines.Goals as goal

pub returns : goal.returns
returns c =
    let l = c.loop-chunk in
    let e = (stopped _ _ _ (sym c.step_at.ensures) c.in_default.not-Chunk).1 in
    record {
      written = listing_ends l.invariant c.requires.room_in_bounds (lines-stop _ l.position e);
      upper_bound = omega (arith, l.invariant.few, l.invariant.short);
    }

pub past-position-requires-clause-cursor_in_bounds : goal.past-position-requires-clause-cursor_in_bounds
past-position-requires-clause-cursor_in_bounds c = (step_means _ _ (step.Chunk c.in-Chunk.chunk) (sym c.in-Chunk.ensures)).there

pub loop-chunk-smaller : goal.loop-chunk-smaller
loop-chunk-smaller c =
    let l = c.loop-chunk in
    let file = c.args.file.now in
    let g = step_means _ _ (step.Chunk c.in-Chunk.chunk) (sym c.in-Chunk.ensures) in
    rw c.past-position.ensures.0 (omega (arith, g.there, past-cursor file l.position c.in-Chunk.chunk))

pub loop-chunk-preserved : goal.loop-chunk-preserved
loop-chunk-preserved c =
    let g = step_means _ _ (step.Chunk c.in-Chunk.chunk) (sym c.in-Chunk.ensures) in
    let w = c.put_chunk_line.ensures in
    let v = subst Walked c.past-position.ensures.0 c.past-position.ensures.1 in
    let line = rw c.is_frame.ensures at w.written in
    rw c.past-position.ensures.0 (listing_more c.loop-chunk.invariant g c.requires.file_len_bound v line w.upper_bound)
