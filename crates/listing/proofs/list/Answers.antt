-- `listing::list` meets its contract. The test of the length is the definition's: past the limit `long_listed` says that the listing is the one long
-- line, and within it `checked_listed` that it is the checked lines.
-- Assumes nothing.
use mathlib.Core.Path.{refl}
use native.Mathlib.Omega.{arith}
use Rattle.text.specs.Puts.{Puts}
use Rattle.listing.specs.Listing.{listing_of}
use Rattle.listing.proofs.Laws.{long_listed, checked_listed}
use Rattle.listing.proofs.list.Goals as goal

pub returns : goal.returns
returns c =
    let i = c.if-input-gt-INPUT_LIMIT in
    let puts : Puts c.new-text.result (listing_of c.args.input.now) i.text =
    elim i.branch [
      | goal.then-input-gt-INPUT_LIMIT w ↦ rw (w.text-is, long_listed c.args.input.now (omega arith)) w.put_long_line.ensures.written
      | goal.else-input-gt-INPUT_LIMIT w ↦ rw (w.text-is, checked_listed c.args.input.now _ (omega arith) refl) w.put_checked_lines.ensures
    ] in
    rw c.len.ensures (rw (c.new-text.ensures.len, c.new-text.ensures.bytes) at puts.written)
