-- 01's and 02's sentences about the run length, a second time: by its seconds, and by what a display shows of it. Assumes nothing.
use Rattle.std.specs.Prelude.{◌≡◌, ℕ, ◌/◌, ◌≤◌, ◌<◌}
use Rattle.duration.specs.Duration.{packed_of, unpacked_of, total_seconds, run_length}
use Rattle.duration.specs.declared.AmvDuration.{AmvDuration}

-- what a display shows without blanks: 02, M-105: "The display shows minutes over 59 as blanks."
pub record Clock (d : AmvDuration) : Type 0 where
  pub seconds_in : d.seconds ≤ 59
  pub minutes_in : d.minutes ≤ 59
  pub hours_in_lem : d.hours ≤ 255

-- for every frame count and every rate
pub record RunLengthSentences : Type 0 where
  -- "A run length nobody reads as 255:60:00."
  pub clock : (frames fps : ℕ) → Clock (run_length frames fps)
  -- "seconds s = frames/fps": up to the cap none is lost
  pub exact : (frames fps : ℕ) → 0 < fps → frames / fps ≤ 921599 → total_seconds (run_length frames fps) ≡ frames / fps
  -- "Above 921,599 seconds the run length becomes 255 h, 59 min, 59 s."
  pub capped : (frames fps : ℕ) → 0 < fps → 921599 < frames / fps → run_length frames fps ≡ record { seconds = 59; minutes = 59; hours = 255 }
  -- "Fps 0 gives zeros."
  pub no_fps : (frames : ℕ) → run_length frames 0 ≡ record { seconds = 0; minutes = 0; hours = 0 }
  -- these leave no choice: what a clock shows is fixed by its seconds
  pub fixed : (d e : AmvDuration) → Clock d → Clock e → total_seconds d ≡ total_seconds e → d ≡ e
  -- more frames never have a shorter run length
  pub grows : (frames more fps : ℕ) → frames ≤ more → total_seconds (run_length frames fps) ≤ total_seconds (run_length more fps)
  -- all of it of the packed form too: it gives the run length back, and never falls
  pub packed_back : (frames fps : ℕ) → unpacked_of (packed_of (run_length frames fps)) ≡ run_length frames fps
  pub packed_grows : (frames more fps : ℕ) → frames ≤ more → packed_of (run_length frames fps) ≤ packed_of (run_length more fps)
