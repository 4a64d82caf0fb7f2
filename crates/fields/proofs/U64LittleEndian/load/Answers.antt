-- `load` of `u64` meets the trait's contract: both sides are the same sum of bytes. Assumes nothing.
use native.Mathlib.Omega.{arith}
use Rattle.fields.specs.Le.{le}
use Rattle.fields.proofs.U64LittleEndian.load.Goals as goal

pub returns : goal.returns
unfolding le
returns c = omega (arith, c.from_le_bytes.ensures)
