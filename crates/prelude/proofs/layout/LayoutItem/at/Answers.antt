use mathlib.Core.Path.{sym}
use Rattle.std.proofs.lemmas.List.{get_or_default}
use Rattle.std.proofs.lemmas.List.{get_or_past}
use Rattle.prelude.specs.Layout.{layout, past}
use Rattle.prelude.proofs.layout.LayoutItem.at.Goals as goal

pub returns-then-i-lt22 : goal.returns-then-i-lt22
unfolding layout
returns-then-i-lt22 c = get_or_default layout c.args.i _ past c.if-i-lt22.true

pub returns-else-i-lt22 : goal.returns-else-i-lt22
unfolding layout
returns-else-i-lt22 c = sym (get_or_past layout c.args.i past c.if-i-lt22.false)
