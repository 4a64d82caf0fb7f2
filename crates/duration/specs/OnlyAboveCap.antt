-- What document 02, M-105, changes of the run length: "Up to the cap the oracle is the Rust; above it, this rule." The Rust's rule, which is 01's, stands
-- here beside it for every number of seconds; no contract is about that any more. Assumes nothing.
use Rattle.std.specs.Prelude.{◌≡◌, false, cond, ℕ, ◌/◌, ◌<◌, eqb}
use Rattle.duration.specs.Duration.{packed_of, of_seconds, run_length, same_duration, consistency}
use Rattle.duration.specs.declared.AmvDuration.{AmvDuration}
use Rattle.duration.specs.declared.DurationConsistency.TheVariants.{Mismatch}

-- 01: "seconds s = frames/fps; hours = min(s/3600, 255) .. Fps 0 gives zeros"
unfoldable pub run_length_before : ℕ → ℕ → AmvDuration
run_length_before frames fps = cond (eqb fps 0) (record { seconds = 0; minutes = 0; hours = 0 }) (of_seconds (frames / fps))

-- 02: "Above 921,599 seconds"
pub record AboveCap (frames fps : ℕ) : Type 0 where
  pub rate : 0 < fps
  pub above : 921599 < frames / fps

-- for every frame count and every rate
pub record OnlyAboveCap : Type 0 where
  -- "Up to the cap the oracle is the Rust"
  pub no_other : (frames fps : ℕ) → (AboveCap frames fps → ⊥) → run_length frames fps ≡ run_length_before frames fps
  -- "above it, this rule": where the old one had minutes over 59
  pub changed : (frames fps : ℕ) → AboveCap frames fps
      → (59 < (run_length_before frames fps).minutes) × (run_length frames fps ≡ record { seconds = 59; minutes = 59; hours = 255 })
  -- so above the cap every answer is another one, packed too
  pub differs : (frames fps : ℕ) → AboveCap frames fps → packed_of (run_length frames fps) ≡ packed_of (run_length_before frames fps) → ⊥
  -- a run length that was written by the old rule is found to be another one, and no device's
  pub old_told : (frames fps : ℕ) → AboveCap frames fps
      → (same_duration (run_length_before frames fps) (run_length frames fps) ≡ false)
      × (consistency (run_length_before frames fps) (run_length frames fps) ≡ Mismatch)
