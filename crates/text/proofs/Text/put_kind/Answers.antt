-- `text::Text::put_kind` meets its contract. One byte stored is a word of one letter (`put_one`), which `letter` gives.
-- Assumes nothing.
use mathlib.Core.Path.{refl}
use native.Mathlib.Omega.{arith}
use Rattle.fields.proofs.Laws.{put_one}
use Rattle.text.proofs.Laws.{puts}
use Rattle.text.proofs.Text.put_kind.Goals as goal

pub returns-clause-written : goal.returns-clause-written
returns-clause-written c =
    let s = c.args.self.now in
    rw (← c.letter.ensures) (puts (omega arith) (put_one s.buffer.now s.len c.letter.result (omega arith)) refl refl)
