-- The run length. Assumes nothing.
use Rattle.std.specs.Prelude.{ℕ, ◌+◌, ◌-◌, ◌*◌, ◌/◌, ◌%◌, min, Bool, true, false, cond, ◌&&◌, List, [], ◌∷◌, eqb, leb, get_or}
use Rattle.fields.specs.Le.{le, le_bytes}
use Rattle.duration.specs.declared.AmvDuration.{AmvDuration}
use Rattle.duration.specs.declared.DurationConsistency.{DurationConsistency}
use Rattle.duration.specs.declared.DurationConsistency.TheVariants.{Exact, TruncatedByOneSecond, Mismatch}

-- 01: "bytes seconds, minutes, hours, 0"
abbrev pub duration_bytes : AmvDuration → List ℕ
duration_bytes d = d.seconds ∷ d.minutes ∷ d.hours ∷ 0 ∷ []

-- the packed form: those four bytes as a number
unfoldable pub packed_of : AmvDuration → ℕ
packed_of d = le 4 (duration_bytes d) 0

-- and back; the fourth byte is not looked at
unfoldable pub unpacked_of : ℕ → AmvDuration
unpacked_of packed =
    let bytes = le_bytes 4 packed in
    record { seconds = get_or bytes 0 0; minutes = get_or bytes 1 0; hours = get_or bytes 2 0 }

abbrev pub total_seconds : AmvDuration → ℕ
total_seconds d = 3600 * d.hours + 60 * d.minutes + d.seconds

-- 01: "hours = min(s/3600, 255); the remainder r = s - 3600·hours; minutes = min(r/60, 255); seconds r mod 60"
unfoldable pub of_seconds : ℕ → AmvDuration
of_seconds s =
    let hours = min (s / 3600) 255 in
    let r = s - 3600 * hours in
    record { seconds = r % 60; minutes = min (r / 60) 255; hours = hours }

-- 02, M-105: "Above 921,599 seconds the run length becomes 255 h, 59 min, 59 s."
abbrev pub max_seconds : ℕ
max_seconds = 921599

abbrev pub longest : AmvDuration
longest = record { seconds = 59; minutes = 59; hours = 255 }

-- 01's `from_frame_count`: "seconds s = frames/fps", and "Fps 0 gives zeros"
unfoldable pub run_length : ℕ → ℕ → AmvDuration
run_length frames fps =
    let s = frames / fps in
    cond (eqb fps 0) (record { seconds = 0; minutes = 0; hours = 0 }) (cond (leb s max_seconds) (of_seconds s) longest)

-- all three parts are equal
abbrev pub same_duration : AmvDuration → AmvDuration → Bool
same_duration a b = eqb a.seconds b.seconds && eqb a.minutes b.minutes && eqb a.hours b.hours

-- how a written run length relates to the derived one
abbrev pub consistency : AmvDuration → AmvDuration → DurationConsistency
consistency written derived =
    cond (same_duration written derived) Exact
    (cond (eqb (total_seconds written + 1) (total_seconds derived)) TruncatedByOneSecond Mismatch)

abbrev pub device_conformant : DurationConsistency → Bool
device_conformant Exact = true
device_conformant TruncatedByOneSecond = true
device_conformant Mismatch = false
