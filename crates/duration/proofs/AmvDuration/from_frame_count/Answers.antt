-- `duration::AmvDuration::from_frame_count` meets its contract: the seconds that it splits are those that are shown, for fps 0 none, and the definition
-- comes to their parts (`run_parts`).
-- Assumes nothing.
use mathlib.Core.Path.{◌≡◌, sym, ap, ◌∙◌}
use native.Mathlib.Nat.{div-zero}
use Rattle.std.proofs.Common.{rules}
use Rattle.duration.proofs.RunLengths.{in_parts, shown, run_parts}
use Rattle.duration.proofs.AmvDuration.from_frame_count.Goals as goal

pub returns : goal.returns
returns c =
    let a = c.args in
    let seconds : c.min-total_seconds.result ≡ shown a.frame_count a.fps = search (rules, div-zero) in
    ap in_parts seconds ∙ sym (run_parts a.frame_count a.fps)
