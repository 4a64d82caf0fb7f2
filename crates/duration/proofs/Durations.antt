-- Two run lengths compared part by part, by the cases of the three tests, and their grade; the packed form read back, and within its field, by
-- arithmetic. Assumes nothing.
use mathlib.Core.Path.{◌≡◌, refl}
use mathlib.Core.Bool.{Bool, true, false, ◌&&◌}
use Prim.Native.Nat.{ℕ, ◌+◌, ◌*◌, ◌/◌, ◌%◌, ◌^◌, ◌<◌}
use native.Mathlib.Omega.{arith}
use lib.Dec.{eqb}
use borrow.Author.Tests.{eqb-true}
use Rattle.fields.specs.Le.{le, le_bytes}
use Rattle.fields.proofs.Impossible.{impossible}
use Rattle.duration.specs.Duration.{packed_of, unpacked_of, total_seconds, same_duration, consistency}
use Rattle.duration.specs.declared.AmvDuration.{AmvDuration}
use Rattle.duration.specs.declared.DurationConsistency.TheVariants.{Mismatch}

-- two that differ, by other seconds than the truncated ones, are graded so
pub graded_mismatch : (a b : AmvDuration) → same_duration a b ≡ false → eqb (total_seconds a + 1) (total_seconds b) ≡ false
    → consistency a b ≡ Mismatch
graded_mismatch a b s t = simp (s, t)

-- the test finds exactly the equal ones
pub same-equal : (a b : AmvDuration) → same_duration a b ≡ true → a ≡ b
same-equal a b e = go _ _ _ refl refl refl e
  where
    go : (s m h : Bool) → eqb a.seconds b.seconds ≡ s → eqb a.minutes b.minutes ≡ m → eqb a.hours b.hours ≡ h → (s && m && h) ≡ true → a ≡ b
    go true true true p q r t =
        λ i.
        record {
          seconds = eqb-true a.seconds b.seconds p i;
          minutes = eqb-true a.minutes b.minutes q i;
          hours = eqb-true a.hours b.hours r i;
        }
    go true true false p q r t = impossible cc
    go true false h p q r t = impossible cc
    go false m h p q r t = impossible cc

-- the packed form keeps the three parts
pub packed_back : (d : AmvDuration) → d.seconds < 256 → d.minutes < 256 → d.hours < 256 → unpacked_of (packed_of d) ≡ d
unfolding unpacked_of packed_of le le_bytes
packed_back d s m h =
    let p : ℕ = packed_of d in
    let first : p % 256 ≡ d.seconds = omega arith in
    let high : p / 256 ≡ d.minutes + 256 * d.hours = omega arith in
    let second : p / 256 % 256 ≡ d.minutes = rw high (omega arith) in
    let top : (d.minutes + 256 * d.hours) / 256 ≡ d.hours = omega arith in
    let third : p / 256 / 256 % 256 ≡ d.hours = rw (high, top) (omega arith) in
    λ i. record { seconds = first i; minutes = second i; hours = third i }

-- and fits four bytes
pub packed-small : (d : AmvDuration) → d.seconds < 256 → d.minutes < 256 → d.hours < 256 → packed_of d < 256 ^ 4
unfolding packed_of le
packed-small d s m h = omega arith
