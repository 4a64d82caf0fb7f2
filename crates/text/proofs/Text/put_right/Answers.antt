-- `text::Text::put_right` meets its contract. The columns are a part of the buffer that is blanked (`spaces_put`), and the digits stand over the last of the
-- spaces (`aligned`).
-- Assumes nothing.
use mathlib.Core.Path.{refl}
use native.Mathlib.Omega.{arith}
use Rattle.text.proofs.Laws.{aligned, same_size, spaces_put}
use Rattle.text.proofs.Text.put_right.Goals as goal

pub returns-clause-written : goal.returns-clause-written
returns-clause-written c =
    let a = c.args in
    let s = a.self.now in
    let blank = spaces_put s.buffer.now _ s.len _ a.width (omega arith) (omega arith) (c.fill.ensures.after (λ y e. e)) in
    let w = aligned a.width a.n (omega arith) (omega arith) refl blank c.put_digits.ensures in
    record { written = w; same_buffer = refl; same_size = same_size w }
