-- `seek::beyond_last` meets its contract. Without records `past_last` is the position itself. Otherwise only the last record counts (`past_records`), and
-- its fields are small since they are read from bytes (`entry-small`).
-- Assumes nothing.
use native.Mathlib.Omega.{arith}
use Rattle.fields.specs.Le.{Bytes}
use Rattle.table.proofs.Records.{entry-small}
use Rattle.seek.proofs.beyond_last.Goals as goal

pub beyond_entry-requires : goal.beyond_entry-requires
unfolding Bytes
beyond_entry-requires c = rw c.read.ensures (entry-small _ _ (λ k. omega (arith, c.type_inv.table k)))
