-- The bits of a number read as signed, at any width: from the middle of the range on they stand for a number below 0. Assumes nothing.
use mathlib.Core.Path.{◌≡◌, refl, ap, ◌∙◌}
use Prim.Native.Nat.{ℕ, zero, suc, ◌+◌, ◌-◌, ◌^◌, ◌<◌}
use native.Mathlib.Nat.{zero-add}
use native.Mathlib.Omega.{arith}
use lib.IntN.{ℤ, pos, negsuc, ◌-ℤ◌}
use mir.Syntax.{Width}
use mir.Val.{bits, hbits, to_z}
use mir.ValLaws.{to_z_pos, to_z-neg}

-- one less than minus k
less : (k : ℕ) → negsuc 0 -ℤ pos k ≡ negsuc k
less zero = refl
less (suc k) = ap negsuc (ap suc (zero-add k))

module _ (w : Width) (n k : ℕ) (small : k < 2 ^ hbits w) (is : n + suc k ≡ 2 ^ bits w) where
  -- the difference by which code comes to such a number
  pub below_zero : negsuc 0 -ℤ to_z w k ≡ negsuc k
  below_zero = ap (λ (z : ℤ). negsuc 0 -ℤ z) (to_z_pos w k small) ∙ less k

  -- what the bits n stand for
  pub as_signed : to_z w n ≡ negsuc k
  as_signed =
      let e : 2 ^ bits w - suc k ≡ n = omega arith in
      rw e at (to_z-neg w k small)
