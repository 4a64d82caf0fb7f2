-- `vectors::print::print_numbers` meets its contract. `printed_next` takes one number more.
-- Assumes nothing.
use Rattle.std.proofs.Common.{ap, arith, ◌∙◌}
use Rattle.vectors.proofs.Printed.{printed_none, printed_next}
use Rattle.vectors.proofs.print.print_numbers.Goals as goal

pub loop-item-init : goal.loop-item-init
loop-item-init g c = printed_none _

pub loop-item-preserved : goal.loop-item-preserved
loop-item-preserved g c =
    let f = g.T.Printed.number in
    printed_next f _ _ _ c.args.items.now c.loop-item.item-index c.number.result c.item-item.result (omega arith) c.loop-item.invariant
    c.in_ok-print_number.ensures (c.number.ensures ∙ ap f c.item-item.is)
