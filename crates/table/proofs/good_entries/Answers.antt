-- `table::good_entries` meets its contract. The invariant `Passing`: the pass over the records that are left, from the most samples so far on, is the pass over
-- all of them; `passing_on`, `passing_no` and `passing_end` are a turn and its two ends.
-- Assumes nothing.
use Rattle.std.proofs.Common.{sym, ◌∙◌}
use Rattle.table.proofs.Records.{passing_no}
use Rattle.table.proofs.good_entries.Goals as goal

pub returns-then-not-good_entry : goal.returns-then-not-good_entry
returns-then-not-good_entry c =
    let s = c.in-Some.ensures.steps in
    passing_no c.loop-number.invariant s.0 (sym c.good_entry.ensures ∙ c.if-not-good_entry.true) s.1
