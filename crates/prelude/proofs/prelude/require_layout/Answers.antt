-- See Invariants. Past the items a loop over them would have `Tag 0 0`.
use Rattle.std.proofs.Common.{refl}
use Rattle.error.proofs.Answers.{passed_on}
use Rattle.prelude.specs.Layout.{layout}
use Rattle.prelude.specs.declared.layout.LayoutItem.TheVariants.{Tag}
use Rattle.prelude.proofs.Layouts.{items-step, items-end}
use Rattle.prelude.proofs.prelude.require_layout.Goals as goal

pub loop-item-init : goal.loop-item-init
loop-item-init c = refl

pub returns-in_err-require_item : goal.returns-in_err-require_item
unfolding layout
returns-in_err-require_item c =
    let l = c.loop-item in
    rw (passed_on _ _ c.from_residual.ensures, ← l.invariant, items-step _ layout l.item-index (Tag 0 0) c.loop-item-test.true, ← c.in_err-require_item.ensures)

pub loop-item-preserved : goal.loop-item-preserved
unfolding layout
loop-item-preserved c =
    let l = c.loop-item in
    rw (← l.invariant, items-step _ layout l.item-index (Tag 0 0) c.loop-item-test.true, ← c.in_ok-require_item.ensures)

pub returns : goal.returns
unfolding layout
returns c = let l = c.loop-item in rw (← l.invariant, items-end _ _ c.loop-item-test.false)
