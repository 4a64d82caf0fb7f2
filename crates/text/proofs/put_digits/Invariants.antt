-- `text::put_digits` meets its contract. The invariant of its loop: the digits of `rest` and those that stand past `i` are the number's, and nothing else
-- has changed (`Putting`). The measure is `i`. `turn` moves one digit and keeps `i` from 0, and `first` puts the first digit.
-- Assumes nothing.
use Rattle.text.proofs.Digits.{Putting}
use Rattle.text.proofs.put_digits.Given as goal

abbrev pub invariant-loop-rest : goal.invariant-loop-rest
invariant-loop-rest l = Putting l.initial.out l.out l.end l.n l.i l.rest

abbrev pub decreases-loop-rest : goal.decreases-loop-rest
decreases-loop-rest l = l.i
