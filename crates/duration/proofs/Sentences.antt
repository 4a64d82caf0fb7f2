-- 01's and 02's sentences about the run length hold: it is the seconds that are shown, in parts (`run_parts`), and these never fall. Assumes nothing.
use mathlib.Core.Path.{◌≡◌, ap, ◌∙◌}
use Prim.Native.Nat.{ℕ, zero, suc, ◌*◌, ◌/◌, ◌≤◌, ◌<◌, min}
use native.Mathlib.Nat.{div-zero, div-mul-le_self, le-div_iff_mul-le}
use native.Mathlib.Omega.{arith}
use Rattle.fields.specs.Le.{le}
use Rattle.duration.specs.Duration.{max_seconds, packed_of, total_seconds, run_length}
use Rattle.duration.specs.Sentences.{Clock, RunLengthSentences}
use Rattle.duration.specs.declared.AmvDuration.{AmvDuration}
use Rattle.duration.proofs.Durations.{packed_back}
use Rattle.duration.proofs.RunLengths.{in_parts, parts_total, shown, run_parts, run_clock}

-- ---- what a clock shows

-- of two clocks, the one with fewer seconds has the smaller packed number
packed_order : (d e : AmvDuration) → Clock d → Clock e → total_seconds d ≤ total_seconds e → packed_of d ≤ packed_of e
unfolding packed_of le
packed_order d e c k h = omega arith

fixed : (d e : AmvDuration) → Clock d → Clock e → total_seconds d ≡ total_seconds e → d ≡ e
fixed d e c k h =
    let hours : d.hours ≡ e.hours = omega arith in
    let minutes : d.minutes ≡ e.minutes = omega arith in
    let seconds : d.seconds ≡ e.seconds = omega arith in
    λ i. record { seconds = seconds i; minutes = minutes i; hours = hours i }

-- ---- the seconds of a run length

run_total : (frames fps : ℕ) → total_seconds (run_length frames fps) ≡ shown frames fps
run_total frames fps = ap total_seconds (run_parts frames fps) ∙ parts_total (shown frames fps)

quotient-grows : (frames more fps : ℕ) → frames ≤ more → frames / fps ≤ more / fps
quotient-grows frames more zero h = rw (div-zero, div-zero) (omega arith)
quotient-grows frames more (suc n) h =
    let below : frames / suc n * suc n ≤ more = omega (arith, div-mul-le_self frames (suc n)) in
    (le-div_iff_mul-le {k = suc n} {x = frames / suc n} {y = more} (omega arith)).1 below

grows : (frames more fps : ℕ) → frames ≤ more → total_seconds (run_length frames fps) ≤ total_seconds (run_length more fps)
grows frames more fps h = rw (run_total frames fps, run_total more fps) (omega (arith, quotient-grows frames more fps h))

capped : (frames fps : ℕ) → 921599 < frames / fps → run_length frames fps ≡ record { seconds = 59; minutes = 59; hours = 255 }
capped frames fps h = let m : min (frames / fps) max_seconds ≡ max_seconds = omega arith in run_parts frames fps ∙ ap in_parts m

pub run_length_sentences : RunLengthSentences
run_length_sentences =
    record {
      clock = run_clock;
      exact = λ frames fps r h. run_total frames fps ∙ omega arith;
      capped = λ frames fps r h. capped frames fps h;
      no_fps = λ frames. run_parts frames 0 ∙ rw div-zero;
      fixed = fixed;
      grows = grows;
      packed_back = λ frames fps. let c = run_clock frames fps in packed_back (run_length frames fps) (omega arith) (omega arith) (omega arith);
      packed_grows = λ frames more fps h.
          packed_order (run_length frames fps) (run_length more fps) (run_clock frames fps) (run_clock more fps) (grows frames more fps h);
    }
