-- What the claims say together. Assumes nothing.
use Rattle.std.specs.Prelude.{◌≡◌, List, ℕ}
use Rattle.error.specs.Answer.{accepted}
use Rattle.muxer.specs.Writer.{fresh}
use Rattle.muxer.specs.declared.Settings.{Settings}
use Rattle.finished.specs.Check.{check_of}
use Rattle.recording.specs.WriteLists.{WriteCall, Completed, written_file}
use Rattle.finished.specs.declared.Totals.{Totals}

-- 01: "a check that refuses all (3, by the writer)": the check accepts every file that a completed list of calls writes
abbrev pub CheckAcceptsWritten : Type 0
CheckAcceptsWritten =
    (s : Settings) (buf : List ℕ) (calls : List WriteCall) → Completed s buf calls → (t : Totals) × (check_of (written_file (fresh s) buf calls) ≡ accepted t)
