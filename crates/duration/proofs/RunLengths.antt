-- The run length by its seconds. Up to the cap 01's own caps are not met, and at the cap 255 h, 59 min, 59 s are what 01's rule gives: so it is the
-- smaller of frames/fps and the cap, in hours, minutes and seconds (`run_parts`), and all that is said of it goes by that. Assumes nothing.
use mathlib.Core.Path.{◌≡◌, refl}
use mathlib.Core.Bool.{Bool, true, false, cond}
use Prim.Native.Nat.{ℕ, ◌-◌, ◌*◌, ◌/◌, ◌%◌, ◌^◌, ◌≤◌, ◌<◌, min}
use native.Mathlib.Nat.{div-zero}
use native.Mathlib.Omega.{arith}
use lib.Dec.{eqb, leb}
use borrow.Author.Tests.{ne_eqb, eqb-true, eqb-false, leb-true, leb-false}
use Rattle.duration.specs.Duration.{max_seconds, longest, packed_of, total_seconds, of_seconds, run_length}
use Rattle.duration.specs.Sentences.{Clock}
use Rattle.duration.specs.declared.AmvDuration.{AmvDuration}
use Rattle.duration.proofs.Durations.{packed-small}

-- so many seconds in hours, minutes and seconds
abbrev hours_in : ℕ → ℕ
hours_in s = s / 3600

abbrev pub in_parts : ℕ → AmvDuration
in_parts s = let r = s - 3600 * hours_in s in record { seconds = r % 60; minutes = r / 60; hours = hours_in s }

pub parts_total : (s : ℕ) → total_seconds (in_parts s) ≡ s
parts_total s = omega arith

parts_clock : (s : ℕ) → s ≤ max_seconds → Clock (in_parts s)
parts_clock s h = record { seconds_in = omega arith; minutes_in = omega arith; hours_in_lem = omega arith }

-- 01's rule up to the cap
of_parts : (s : ℕ) → s ≤ max_seconds → of_seconds s ≡ in_parts s
unfolding of_seconds
of_parts s h =
    let hours : min (s / 3600) 255 ≡ hours_in s = omega arith in
    let minutes : min ((s - 3600 * hours_in s) / 60) 255 ≡ (s - 3600 * hours_in s) / 60 = omega arith in
    rw (hours, minutes)

-- the seconds that are shown
abbrev pub shown : ℕ → ℕ → ℕ
shown frames fps = min (frames / fps) max_seconds

pub run_parts : (frames fps : ℕ) → run_length frames fps ≡ in_parts (shown frames fps)
unfolding run_length
run_parts frames fps = go _ refl
  where
    s : ℕ
    s = frames / fps

    up_to : (b : Bool) → leb s max_seconds ≡ b → cond b (of_seconds s) longest ≡ in_parts (min s max_seconds)
    up_to true e =
        let h : s ≤ max_seconds = leb-true s max_seconds e in
        let m : min s max_seconds ≡ s = omega arith in
        rw m (of_parts s h)
    up_to false e =
        let h : max_seconds < s = leb-false s max_seconds e in
        let m : min s max_seconds ≡ max_seconds = omega arith in
        rw m

    go : (b : Bool) → eqb fps 0 ≡ b → run_length frames fps ≡ in_parts (min s max_seconds)
    go true e = rw (eqb-true fps 0 e, div-zero)
    go false e = rw (ne_eqb fps 0 (eqb-false fps 0 e)) (up_to _ refl)

pub run_clock : (frames fps : ℕ) → Clock (run_length frames fps)
run_clock frames fps = rw (run_parts frames fps) (parts_clock (shown frames fps) (omega arith))

-- packed it fits its field
pub run_small : (frames fps : ℕ) → packed_of (run_length frames fps) < 256 ^ 4
run_small frames fps =
    let c = run_clock frames fps in
    packed-small (run_length frames fps) (omega arith) (omega arith) (omega arith)
