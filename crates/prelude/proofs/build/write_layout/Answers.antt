-- See Invariants. Past the items a loop over them would have `Tag 0 0`.
use Rattle.std.proofs.Common.{refl, sym, ◌∙◌}
use Rattle.prelude.specs.Layout.{layout}
use Rattle.prelude.specs.declared.layout.LayoutItem.TheVariants.{Tag}
use Rattle.prelude.proofs.Stored.{within, written_step, written_end}
use Rattle.prelude.proofs.build.write_layout.Goals as goal

pub loop-item-init : goal.loop-item-init
loop-item-init c = refl

pub write_item-requires : goal.write_item-requires
unfolding layout
write_item-requires c = within c.loop-item.item-index

pub loop-item-preserved : goal.loop-item-preserved
unfolding layout
loop-item-preserved c =
    let l = c.loop-item in
    let w = c.write_item in
    rw w.ensures (sym (written_step l.bytes layout l.item-index (Tag 0 0) c.loop-item-test.true) ∙ l.invariant)

pub returns : goal.returns
unfolding layout
returns c = let l = c.loop-item in sym (written_end _ _ c.loop-item-test.false) ∙ l.invariant
