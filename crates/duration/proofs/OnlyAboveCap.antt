-- 02's change of the run length, by whether its seconds are above the cap: there 01's rule has over 59 minutes in its last hour. Assumes nothing.
use mathlib.Core.Path.{◌≡◌, refl, sym, ap, ◌∙◌}
use mathlib.Core.Bool.{Bool, true, false}
use Prim.Native.Nat.{ℕ, ◌+◌, ◌/◌, ◌<◌}
use native.Mathlib.Omega.{arith}
use lib.Dec.{eqb, leb}
use borrow.Author.Tests.{ne_eqb, eqb-true, eqb-false, leb-false}
use Rattle.fields.specs.Le.{le}
use Rattle.duration.specs.Duration.{max_seconds, packed_of, total_seconds, of_seconds, run_length, same_duration}
use Rattle.duration.specs.OnlyAboveCap.{run_length_before, AboveCap, OnlyAboveCap}
use Rattle.duration.specs.declared.AmvDuration.{AmvDuration}
use Rattle.duration.proofs.Durations.{same-equal, graded_mismatch}
use Rattle.duration.proofs.Sentences.{run_length_sentences}

-- 01's rule above the cap: what the parts of the two rules are compared by
record Over (d : AmvDuration) : Type 0 where
  minutes_over : 59 < d.minutes
  seconds_over : 921599 < total_seconds d
  packed_other : packed_of d ≡ packed_of (record { seconds = 59; minutes = 59; hours = 255 }) → ⊥

over : (s : ℕ) → 921599 < s → Over (of_seconds s)
unfolding packed_of le of_seconds
over s h = record { minutes_over = omega arith; seconds_over = omega arith; packed_other = λ e. omega arith }

module _ (frames fps : ℕ) where
  no_other : (AboveCap frames fps → ⊥) → run_length frames fps ≡ run_length_before frames fps
  unfolding run_length run_length_before
  no_other n = go _ _ refl refl
    where
      go : (none within : Bool) → eqb fps 0 ≡ none → leb (frames / fps) max_seconds ≡ within → run_length frames fps ≡ run_length_before frames fps
      go true within e l = rw (eqb-true fps 0 e)
      go false true e l = rw (e, l)
      go false false e l =
          absurd (n (record { rate = let z = eqb-false fps 0 e in omega arith; above = leb-false (frames / fps) max_seconds l }))

  module _ (a : AboveCap frames fps) where
    now_is : run_length frames fps ≡ record { seconds = 59; minutes = 59; hours = 255 }
    now_is = run_length_sentences.capped frames fps a.rate a.above

    before-over : Over (run_length_before frames fps)
    unfolding run_length_before
    before-over = rw (ne_eqb fps 0 (λ e. let r = a.rate in omega arith)) (over (frames / fps) a.above)

    differs : packed_of (run_length frames fps) ≡ packed_of (run_length_before frames fps) → ⊥
    differs e = before-over.packed_other (sym e ∙ ap packed_of now_is)

    other : same_duration (run_length_before frames fps) (run_length frames fps) ≡ false
    other = go _ refl
      where
        go : (same : Bool) → same_duration (run_length_before frames fps) (run_length frames fps) ≡ same → same ≡ false
        go false e = refl
        go true e = absurd (differs (ap packed_of (sym (same-equal (run_length_before frames fps) (run_length frames fps) e))))

    not_truncated : eqb (total_seconds (run_length_before frames fps) + 1) (total_seconds (run_length frames fps)) ≡ false
    not_truncated = let h = before-over.seconds_over in rw now_is (ne_eqb (total_seconds (run_length_before frames fps) + 1) 921599 (λ e. omega arith))

pub only-above_cap : OnlyAboveCap
only-above_cap =
    record {
      no_other = no_other;
      changed = λ frames fps a. ((before-over frames fps a).minutes_over, now_is frames fps a);
      differs = differs;
      old_told = λ frames fps a. (
        other frames fps a,
        graded_mismatch (run_length_before frames fps) (run_length frames fps) (other frames fps a) (not_truncated frames fps a),
      );
    }
