-- `registers::pending_of` meets its contract. The operations on bytes are those of the definition.
-- Assumes nothing.
use mathlib.Core.Path.{refl}
use Rattle.registers.specs.Registers.{pending_of}
use Rattle.registers.proofs.pending_of.Goals as goal

pub returns : goal.returns
unfolding pending_of
returns c = refl
