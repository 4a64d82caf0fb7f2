-- A run of writing calls, before one of them and after the last. Assumes nothing.
use mathlib.Core.Path.{◌≡◌, refl, ap, ◌∙◌}
use Prim.Native.Nat.{ℕ, ◌+◌, ◌*◌, ◌≤◌, ◌<◌}
use mathlib.Core.List.{List, [], ◌∷◌}
use Rattle.error.specs.Refusal.{said}
use Rattle.fields.specs.Le.{put}
use Rattle.muxer.specs.Writer.{fresh, MeetsOutcome}
use Rattle.muxer.specs.declared.Settings.{Settings}
use Rattle.muxer.specs.declared.Writer.{Writer}
use Rattle.muxer.specs.declared.Wrote.{Wrote}
use Rattle.recording.specs.WriteLists.{WriteCall, write_step, writer_after, buffer_after}
use Rattle.rows.specs.Rows.{calls_from, rows_of, state_after, numbers}
use Rattle.rows.proofs.Laws.{Going, going_on, last-state, last_rows}
use Rattle.replay_writes.specs.Replay.{Lists, call_at, verdict, State, step, Run}

-- one call on: what it wrote and its verdict are those of the step
pub writing_on : (l : Lists) (n : ℕ) (s₀ : State) (verdicts₀ : List ℕ) {w : Writer} {buf verdicts : List ℕ} {i : ℕ}
    → Going step 2 (call_at l) n s₀ verdicts₀ (record { writer = w; buffer = buf }) verdicts i → i < n → (r : Wrote) (after : List ℕ)
    → MeetsOutcome (write_step w buf (call_at l i)) r after → {left : List ℕ} → left ≡ put verdicts (i * 2) (verdict (said r.result))
    → Going step 2 (call_at l) n s₀ verdicts₀ (record { writer = r.writer; buffer = after }) left (i + 1)
writing_on l n s₀ verdicts₀ {w} {buf} {verdicts} {i} g h r after m p =
    going_on step 2 (call_at l) n s₀ verdicts₀ (λ s c. refl) g h _ (λ j. record { writer = m.writer j; buffer = m.buffer j })
    (p ∙ ap (λ a. put verdicts (i * 2) (verdict a)) m.answer)

-- the state after a list is that of `Written`
after_is : (s : State) (calls : List WriteCall)
    → state_after step s calls ≡ record { writer = writer_after s.writer s.buffer calls; buffer = buffer_after s.writer s.buffer calls }
unfolding state_after writer_after buffer_after
after_is s [] = refl
after_is s (c ∷ cs) = after_is (step.next s c) cs

module _ (l : Lists) (n : ℕ) (s₀ : State) (verdicts₀ : List ℕ) {w : Writer} {buf verdicts : List ℕ} {i : ℕ}
    (g : Going step 2 (call_at l) n s₀ verdicts₀ (record { writer = w; buffer = buf }) verdicts i) (h : n ≤ i) where
  pub writing-last : (s : Settings) → s₀.writer ≡ fresh s → Run s s₀.buffer verdicts₀ (calls_from (call_at l) 0 n) n w buf verdicts
  writing-last s new =
      let calls = calls_from (call_at l) 0 n in
      let state-is = last-state step 2 (call_at l) n s₀ verdicts₀ g h ∙ after_is s₀ calls in
      record {
        room = g.room;
        writer_is = ap (λ (t : State). t.writer) state-is ∙ ap (λ (v : Writer). writer_after v s₀.buffer calls) new;
        buffer_is = ap (λ (t : State). t.buffer) state-is ∙ ap (λ (v : Writer). buffer_after v s₀.buffer calls) new;
        verdicts_are =
            last_rows step 2 (call_at l) n s₀ verdicts₀ g h
            ∙ ap (λ (v : Writer). put verdicts₀ 0 (numbers (rows_of step (record { writer = v; buffer = s₀.buffer }) calls))) new;
      }
