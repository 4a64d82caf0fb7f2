-- The operations on bytes, bit by bit, and pending of single blocks. Assumes nothing.
use mathlib.Core.Path.{◌≡◌, refl, ap, ◌∙◌}
use Prim.Native.Nat.{ℕ, zero, suc, ◌+◌, ◌-◌, ◌/◌, ◌%◌, ◌^◌, ◌≤◌, ◌<◌}
use mathlib.Core.Bool.{false, not, ◌&&◌, ◌||◌}
use native.Mathlib.Nat.{mod-lt, div-eq_of_lt, lt_of_lt_of_le}
use native.Mathlib.Omega.{arith}
use lib.Bits.{bit_and, bit_or, and_shr, or_shr, and_mod, or_mod}
use lib.Dec.{eqb}
use lib.Pow.{pow_mono}
use mathlib.Core.List.{[], ◌∷◌}
use Rattle.registers.specs.Registers.{pending_of}
use Rattle.registers.specs.Sentences.{bit}

-- ---- pending of single blocks, computed: each has another number where its rule is left out or its order exchanged. A block's first five bytes
-- are command, status, enable, pending and acknowledge; the new status stands after it.

-- acknowledged and raised in one step
acknowledged_raised : pending_of (0 ∷ 0 ∷ 1 ∷ 1 ∷ 1 ∷ []) 1 ≡ 1
unfolding pending_of
acknowledged_raised = refl

-- enabled, and 1 before
already_one : pending_of (0 ∷ 1 ∷ 1 ∷ 0 ∷ 0 ∷ []) 1 ≡ 0
unfolding pending_of
already_one = refl

-- raised, and not enabled
not_enabled : pending_of (0 ∷ 0 ∷ 0 ∷ 0 ∷ 0 ∷ []) 1 ≡ 0
unfolding pending_of
not_enabled = refl

-- ---- two digits

digit_or : (x y : ℕ) → x < 2 → y < 2 → eqb (bit_or x y) 1 ≡ (eqb x 1 || eqb y 1)
digit_or zero zero h k = refl
digit_or zero (suc zero) h k = refl
digit_or (suc zero) zero h k = refl
digit_or (suc zero) (suc zero) h k = refl
digit_or zero (suc (suc n)) h k = absurd (omega arith)
digit_or (suc zero) (suc (suc n)) h k = absurd (omega arith)
digit_or (suc (suc n)) y h k = absurd (omega arith)

digit_and : (x y : ℕ) → x < 2 → y < 2 → eqb (bit_and x y) 1 ≡ (eqb x 1 && eqb y 1)
digit_and zero zero h k = refl
digit_and zero (suc zero) h k = refl
digit_and (suc zero) zero h k = refl
digit_and (suc zero) (suc zero) h k = refl
digit_and zero (suc (suc n)) h k = absurd (omega arith)
digit_and (suc zero) (suc (suc n)) h k = absurd (omega arith)
digit_and (suc (suc n)) y h k = absurd (omega arith)

-- the other one
opposite : (x y : ℕ) → x + y ≡ 1 → eqb x 1 ≡ not (eqb y 1)
opposite zero zero h = absurd (omega arith)
opposite zero (suc zero) h = refl
opposite zero (suc (suc n)) h = absurd (omega arith)
opposite (suc zero) zero h = refl
opposite (suc x) (suc y) h = absurd (omega arith)
opposite (suc (suc x)) zero h = absurd (omega arith)

-- ---- a bit

pub bit-bit_or : (i a b : ℕ) → bit i (bit_or a b) ≡ (bit i a || bit i b)
bit-bit_or i a b =
    ap (λ (n : ℕ). eqb (n % 2) 1) (or_shr a b i)
    ∙ ap (λ (n : ℕ). eqb n 1) (or_mod (a / 2 ^ i) (b / 2 ^ i) 1)
    ∙ digit_or (a / 2 ^ i % 2) (b / 2 ^ i % 2) (mod-lt _ (omega arith)) (mod-lt _ (omega arith))

pub bit-bit_and : (i a b : ℕ) → bit i (bit_and a b) ≡ (bit i a && bit i b)
bit-bit_and i a b =
    ap (λ (n : ℕ). eqb (n % 2) 1) (and_shr a b i)
    ∙ ap (λ (n : ℕ). eqb n 1) (and_mod (a / 2 ^ i) (b / 2 ^ i) 1)
    ∙ digit_and (a / 2 ^ i % 2) (b / 2 ^ i % 2) (mod-lt _ (omega arith)) (mod-lt _ (omega arith))

digit_not : (i b : ℕ) → i < 8 → b < 256 → (255 - b) / 2 ^ i % 2 + b / 2 ^ i % 2 ≡ 1
digit_not zero b h k = omega arith
digit_not (suc zero) b h k = omega arith
digit_not (suc (suc zero)) b h k = omega arith
digit_not (suc (suc (suc zero))) b h k = omega arith
digit_not (suc (suc (suc (suc zero)))) b h k = omega arith
digit_not (suc (suc (suc (suc (suc zero))))) b h k = omega arith
digit_not (suc (suc (suc (suc (suc (suc zero)))))) b h k = omega arith
digit_not (suc (suc (suc (suc (suc (suc (suc zero))))))) b h k = omega arith
digit_not (suc (suc (suc (suc (suc (suc (suc (suc n)))))))) b h k = absurd (omega arith)

pub bit_not : (i b : ℕ) → i < 8 → b < 256 → bit i (255 - b) ≡ not (bit i b)
bit_not i b h k = opposite ((255 - b) / 2 ^ i % 2) (b / 2 ^ i % 2) (digit_not i b h k)

-- a number below 16 has none from bit 4 on
pub bit_high : (i n : ℕ) → 4 ≤ i → n < 16 → bit i n ≡ false
bit_high i n h k = rw (div-eq_of_lt (lt_of_lt_of_le k (pow_mono h)))
