-- `seek::least_stamp` meets its contract. A negative request is reached by every stamp, so the least is 0; any other request is its own natural number.
-- The code compares what its bits say, which is the request (`to_z-of_z`).
-- Assumes nothing.
use mathlib.Core.Path.{◌≡◌, refl}
use mathlib.Core.Bool.{true, false}
use native.Mathlib.Omega.{arith}
use lib.Dec.{T}
use lib.IntN.{ℤ, pos, negsuc, nat_abs}
use lib.Signed.{lt_z, non_neg}
use borrow.Author.Tests.{ltb-true}
use mir.Syntax.{w64}
use mir.Val.{Fits, SFits}
use mir.ValLaws.{to_z-of_z}
use Rattle.fields.proofs.Impossible.{impossible}
use Rattle.seek.specs.Steps.{least}
use Rattle.seek.proofs.least_stamp.Goals as goal

below : (z : ℤ) → lt_z z (pos 0) ≡ true → 0 ≡ least z
unfolding least
below (pos n) e = let h = ltb-true n 0 e in omega arith
below (negsuc n) e = refl

above : (z : ℤ) → SFits w64 z → lt_z z (pos 0) ≡ false → T (non_neg z) × Fits w64 (nat_abs z)
above (pos n) f e = (tt, omega (arith, f.sfits))
above (negsuc n) f e = (impossible cc, impossible cc)

same : (z : ℤ) → lt_z z (pos 0) ≡ false → nat_abs z ≡ least z
unfolding least
same (pos n) e = refl
same (negsuc n) e = impossible cc

pub returns-then-request-lt0 : goal.returns-then-request-lt0
returns-then-request-lt0 c = below c.args.request (rw (to_z-of_z w64 c.args.request c.ranges.request) at c.if-request-lt0.true)

pub overflow_cast-result : goal.overflow_cast-result
overflow_cast-result c = rw (to_z-of_z w64 c.args.request c.ranges.request) (above c.args.request c.ranges.request (rw (to_z-of_z w64 c.args.request c.ranges.request) at c.if-request-lt0.false))

pub returns-else-request-lt0 : goal.returns-else-request-lt0
returns-else-request-lt0 c = rw (to_z-of_z w64 c.args.request c.ranges.request) (same c.args.request (rw (to_z-of_z w64 c.args.request c.ranges.request) at c.if-request-lt0.false))
