-- `vectors::run::run_listing` is safe; it has no contract of its own. `ends_within` says that the listing ends within its buffer.
-- Assumes nothing.
use Rattle.std.proofs.Common.{sym, length-take-le}
use Rattle.text.proofs.Laws.{ends_within}
use Rattle.vectors.proofs.run.run_listing.Goals as goal

pub slice_bounds-lines-end : goal.slice_bounds-lines-end
slice_bounds-lines-end g c = ends_within c.list-end.ensures

pub slice_bounds-print_answer-end : goal.slice_bounds-print_answer-end
slice_bounds-print_answer-end g c =
    sym (length-take-le c.list-end.result c.list-end.new.lines (ends_within c.list-end.ensures))
