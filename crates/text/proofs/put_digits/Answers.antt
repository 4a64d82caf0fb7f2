-- `text::put_digits` meets its contract. The invariant of its loop: the digits of `rest` and those that stand past `i` are the number's, and nothing else
-- has changed (`Putting`). The measure is `i`. `turn` moves one digit and keeps `i` from 0, and `first` puts the first digit.
-- Assumes nothing.
use native.Mathlib.Omega.{arith}
use Rattle.text.proofs.Digits.{digits_some, begin, turn, first}
use Rattle.text.proofs.put_digits.Goals as goal

pub overflow_sub-i : goal.overflow_sub-i
overflow_sub-i c = omega (arith, digits_some 19 c.args.n)

pub loop-rest-init : goal.loop-rest-init
loop-rest-init c = begin c.args.out.now c.args.end c.args.n (omega arith) c.requires.n_len_bound c.requires.end_in_bounds

pub overflow_sub-i-in-loop-rest : goal.overflow_sub-i-in-loop-rest
overflow_sub-i-in-loop-rest c = let t = turn c.loop-rest-test.true c.loop-rest.invariant in omega (arith, t.below)

pub loop-rest-smaller : goal.loop-rest-smaller
loop-rest-smaller c = let t = turn c.loop-rest-test.true c.loop-rest.invariant in omega (arith, t.below)

pub loop-rest-preserved : goal.loop-rest-preserved
loop-rest-preserved c = (turn c.loop-rest-test.true c.loop-rest.invariant).on

pub returns : goal.returns
returns c = first (omega arith) c.loop-rest.invariant
