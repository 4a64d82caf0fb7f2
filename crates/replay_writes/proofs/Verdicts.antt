-- What the verdicts say: which calls were accepted, by their numbers, and so what 01 claims of the file. Assumes nothing.
use mathlib.Core.Path.{◌≡◌, refl, ap, ◌∙◌}
use Prim.Native.Nat.{ℕ}
use mathlib.Core.Bool.{cond}
use mathlib.Core.List.{List, [], ◌∷◌}
use borrow.Author.Tests.{ne_eqb}
use lib.Dec.{eqb}
use lib.ListN.{take}
use Rattle.error.specs.Answer.{Answer, accepted, refused, number_of}
use Rattle.muxer.specs.Writer.{fresh}
use Rattle.muxer.specs.declared.Settings.{Settings}
use Rattle.muxer.specs.declared.Writer.{Writer}
use Rattle.recording.specs.WriteLists.{WriteCall, write_step, kept, accepted_calls, written_file, Held, WritesAgreed}
use Rattle.recording.proofs.Numbers.{Numbered, step-numbered}
use Rattle.recording.proofs.Writes.{writes}
use Rattle.rows.specs.Rows.{calls_from, rows_of}
use Rattle.rows.proofs.Laws.{rows_back}
use Rattle.replay_writes.specs.Replay.{Lists, call_at, State, begun, step, accepted_by, accepted_in, Run}

-- ---- the verdicts tell which calls were accepted

kept_by_number : (a : Answer Unit) (c : WriteCall) (cs : List WriteCall) → Numbered a → cond (eqb (number_of a) 0) (c ∷ cs) cs ≡ kept a c cs
kept_by_number (accepted u) c cs k = refl
kept_by_number (refused r) c cs k = rw (ne_eqb r.number 0 k)

accepted-told : (s : State) (calls : List WriteCall) → accepted_by (rows_of step s calls) calls ≡ accepted_calls s.writer s.buffer calls
unfolding accepted_by accepted_calls rows_of
accepted-told s [] = refl
accepted-told s (c ∷ cs) =
    rw (accepted-told (step.next s c) cs) (kept_by_number (write_step s.writer s.buffer c).answer c _ (step-numbered s.writer s.buffer c))

-- ---- the file

-- the claim, of what a run leaves
pub agreed : (s : Settings) → Held s → (buf verdicts : List ℕ) (l : Lists) (n : ℕ) {w : Writer} {after left : List ℕ}
    → Run s buf verdicts (calls_from (call_at l) 0 n) n w after left
    → WritesAgreed s (take w.written after) (accepted_in left n (calls_from (call_at l) 0 n))
agreed s held buf verdicts l n {w} {after} {left} run =
    let calls = calls_from (call_at l) 0 n in
    let said : accepted_in left n calls ≡ accepted_calls (fresh s) buf calls =
    ap (λ (ys : List ℕ). accepted_in ys n calls) run.verdicts_are
    ∙ ap (λ vs. accepted_by vs calls) (rows_back step 2 (λ t c. refl) (call_at l) n (begun s buf) verdicts)
    ∙ accepted-told (begun s buf) calls in
    let file : take w.written after ≡ written_file (fresh s) buf calls = λ i. take (run.writer_is i).written (run.buffer_is i) in
    rw (said, file) (writes s buf calls held)
