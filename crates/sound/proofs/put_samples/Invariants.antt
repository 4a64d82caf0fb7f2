-- `sound::put_samples` meets its contract. The loop's invariant is `Putting`.
-- Assumes nothing.
use Rattle.sound.proofs.Stores.{Putting}
use Rattle.sound.proofs.put_samples.Given as goal

abbrev pub invariant-loop-i : goal.invariant-loop-i
invariant-loop-i l = Putting l.bytes l.initial.samples l.initial.state l.count l.samples l.state l.i
