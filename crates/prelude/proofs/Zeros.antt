-- A stretch of zeros up to an end, byte by byte: the question of one byte, then those of the rest. Assumes nothing.
use mathlib.Core.Path.{◌≡◌}
use mathlib.Core.List.{List}
use Prim.Native.Nat.{ℕ, suc, ◌+◌, ◌-◌, ◌<◌}
use native.Mathlib.Omega.{arith}
use borrow.Author.Tests.{eq-eqb, ne_eqb}
use lib.ListN.{get_or}
use Rattle.error.specs.Answer.{refused, numbered}
use Rattle.prelude.specs.Prelude.{zeros}

module _ (file : List ℕ) (at end : ℕ) (h : at < end) where
  rest : end - at ≡ suc (end - (at + 1))
  rest = omega arith

  pub zeros_on : get_or file at 0 ≡ 0 → zeros file at (end - at) ≡ zeros file (at + 1) (end - (at + 1))
  unfolding zeros
  zeros_on z = let d : suc at ≡ at + 1 = omega arith in rw (rest, eq-eqb _ _ z, d)

  pub zeros-no : (get_or file at 0 ≡ 0 → ⊥) → zeros file at (end - at) ≡ refused (numbered 18 at)
  unfolding zeros
  zeros-no z = rw (rest, ne_eqb _ _ z)
