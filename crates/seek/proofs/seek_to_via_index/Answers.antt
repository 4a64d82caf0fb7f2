-- `seek::seek_to_via_index` meets its contract. A seek whose questions pass lands where the search for the least stamp that reaches its request leads:
-- `seek_lands`.
-- Assumes nothing.
use Rattle.std.proofs.Common.{◌≡◌, ℕ, sym, ap, ◌∙◌}
use lib.IntN.{pos}
use mir.Syntax.{w64}
use mir.ValLaws.{to_z-of_z}
use Rattle.chunk_index.specs.Entry.{entries_of}
use Rattle.seek.specs.Seek.{find}
use Rattle.seek.specs.Steps.{least}
use Rattle.seek.proofs.Seeks.{seek_lands}
use Rattle.seek.proofs.seek_to_via_index.Goals as goal

pub returns-in-Ok : goal.returns-in-Ok
returns-in-Ok c =
    let a = c.args in
    let r : c.least_stamp.result ≡ least a.request = c.least_stamp.ensures ∙ ap least (to_z-of_z w64 a.request c.ranges.request) in
    let found = c.find_entry-found.ensures ∙ ap (λ (n : ℕ). find a.stream (pos n) (entries_of a.table.now)) r in
    c.land.ensures ∙ sym (seek_lands a.table.now a.walker a.stream a.request (sym c.in-Ok.ensures) found)
