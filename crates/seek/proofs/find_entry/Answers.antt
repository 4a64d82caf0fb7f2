-- `seek::find_entry` meets its contract. The invariant of its loop: searching the records of the bytes that are left is searching all of them, and offset
-- and rest add up to the table's length. The measure is the rest; `find_on`, `find_here` and `entries_off` are a turn and its two ends.
-- Assumes nothing.
use mathlib.Core.Path.{refl, sym, ◌∙◌}
use native.Mathlib.Omega.{arith}
use lib.IntN.{pos}
use Rattle.seek.specs.Seek.{find}
use Rattle.seek.proofs.Records.{entries_off, find_on, find_here}
use Rattle.seek.proofs.find_entry.Goals as goal

pub loop-left-init : goal.loop-left-init
loop-left-init c = (omega arith, refl)

pub read-e-requires : goal.read-e-requires
read-e-requires c = omega arith

pub returns-then-reaches_entry : goal.returns-then-reaches_entry
returns-then-reaches_entry c =
    let l = c.loop-left in
    let a = c.args in
    let g = sym c.reaches_entry.ensures ∙ c.if-reaches_entry.true in
    sym (find_here a.table.now l.at l.left (omega arith) c.read-e.ensures a.stream (pos a.request) g) ∙ l.invariant.1

pub overflow_add-at : goal.overflow_add-at
overflow_add-at c = omega arith

pub loop-left-smaller : goal.loop-left-smaller
loop-left-smaller c = omega arith

pub loop-left-preserved : goal.loop-left-preserved
loop-left-preserved c =
    let l = c.loop-left in
    let a = c.args in
    let g = sym c.reaches_entry.ensures ∙ c.if-reaches_entry.false in
    let on = find_on a.table.now l.at l.left (omega arith) c.read-e.ensures a.stream (pos a.request) g in
    (omega arith, sym on ∙ l.invariant.1)

pub returns : goal.returns
unfolding find
returns c = let l = c.loop-left in
    rw (entries_off c.args.table.now l.at l.left (omega arith)) at l.invariant.1
