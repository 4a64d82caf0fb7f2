-- `prelude::build::write_layout` meets its contract. The invariant of its loop: writing the items from the next one on gives what writing all of them to
-- the first bytes gives. `written_step` is a turn.
-- Assumes nothing.
use Rattle.std.proofs.Common.{◌≡◌}
use lib.ListN.{drop}
use Rattle.prelude.specs.Layout.{layout}
use Rattle.prelude.specs.Steps.{write_items}
use Rattle.prelude.proofs.build.write_layout.Given as goal

abbrev pub invariant-loop-item : goal.invariant-loop-item
invariant-loop-item l =
    write_items l.bytes (drop l.item-index layout) ≡ write_items l.initial.bytes layout
