-- `prelude::prelude::require_layout` meets its contract. The invariant of its loop: asking the items from the next one on is asking all of them.
-- `items-step` is a turn.
-- Assumes nothing.
use Rattle.std.proofs.Common.{◌≡◌}
use lib.ListN.{drop}
use Rattle.prelude.specs.Layout.{layout, ask_items}
use Rattle.prelude.proofs.prelude.require_layout.Given as goal

abbrev pub invariant-loop-item : goal.invariant-loop-item
invariant-loop-item l = (ask_items l.file (drop l.item-index layout) ≡ ask_items l.file layout)
