-- `duration::AmvDuration::to_packed` meets its contract: both sides are the same sum of the three parts. Assumes nothing.
use native.Mathlib.Omega.{arith}
use Rattle.fields.specs.Le.{le}
use Rattle.duration.specs.Duration.{packed_of}
use Rattle.duration.proofs.AmvDuration.to_packed.Goals as goal

pub returns : goal.returns
unfolding packed_of le
returns c = omega (arith, c.from_le_bytes.ensures)
