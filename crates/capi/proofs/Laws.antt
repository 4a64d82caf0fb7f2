-- From what the called function ensures to what the exported one answers and leaves. Assumes nothing.
use mathlib.Core.Path.{◌≡◌, refl, sym, ap, subst, ◌∙◌}
use Rattle.std.proofs.Common.{Result, Ok, Err, Option}
use Rattle.error.specs.declared.AmvError.{AmvError}
use Prim.Native.Nat.{ℕ}
use mathlib.Core.Bool.{Bool, true, false, cond}
use mathlib.Core.List.{List, ◌∷◌}
use lib.ListN.{length, drop}
use Rattle.std.specs.Result.{MatchResult, IsOkAnd}
use Rattle.error.specs.Answer.{Answer, accepted, refused, and_then}
use Rattle.error.specs.Refusal.{refusal_of, said}
use Rattle.demuxer.specs.Read.{said_next, said_read, read_of}
use Rattle.demuxer.specs.declared.walker.Walker.{Walker}
use Rattle.demuxer.specs.declared.packet.Packet.{Packet}
use Rattle.demuxer.specs.declared.walker.Read.{Read}
use Rattle.muxer.specs.Writer.{WriteOutcome, MeetsOutcome, outcome, after_packet, packet_questions, packet_call}
use Rattle.muxer.specs.declared.Writer.{Writer}
use Rattle.muxer.specs.declared.Wrote.{Wrote}
use Rattle.recording.specs.Machine.{Call}
use Rattle.registers.specs.Registers.{command_in, perform, stepped, stepped_from, said_step, step_of, MeetsStep}
use Rattle.registers.specs.Steps.{block_told}
use Rattle.registers.proofs.Performs.{block-told}
use Rattle.registers.specs.declared.RegisterStep.{RegisterStep}
use Rattle.registers.specs.declared.Told.{Told}
use Rattle.words.specs.Out.{OutSays, given, checked, unless_refused, shown_words, read_words}
use Rattle.words.specs.State.{word, mark_of, walker_of, walker_words, writer_of, writer_words, counts_into}
use Rattle.words.proofs.Laws.{says-accepted}
use Rattle.words.proofs.States.{mark_back, at_counts, counts_kept, words_stand}
use Rattle.demuxer.proofs.Outcomes.{refused-stays}
use Rattle.capi.specs.Calls.{WalkerCall, next_answer, next_walker, step_answer, step_walker, StepCall, WriterCall}
use Rattle.capi.specs.Steps.{DoneInWords}

-- what holds of both choices
pub either : {A : Type 0} (P : A → Type 0) (b : Bool) (x y : A) → P x → P y → P (cond b x y)
either P true x y p q = p
either P false x y p q = q

-- ---- a result that is known

pub known : {A R : Type 0} {answer : Answer A} {r v : R} (said_of : R → Answer A) → said_of r ≡ answer → r ≡ v → answer ≡ said_of v
known said_of e t = sym e ∙ ap said_of t

pub gave : {A R : Type 0} {answer : Answer A} {r v : R} (said_of : R → Answer A) (f : A → List ℕ) → said_of r ≡ answer → r ≡ v
    → given f answer ≡ given f (said_of v)
gave said_of f e t = ap (λ a. given f a) (known said_of e t)

-- ---- a result by `map`

-- the answer of a call whose words come of its result
pub says_mapped : {A : Type 0} {answer : Answer A} {number : ℕ} {out : List ℕ} (n : ℕ) (r : Result A AmvError) (m : Result (List ℕ) AmvError)
    (words : A → List ℕ) → said r ≡ answer → MatchResult r (λ x. IsOkAnd m (λ y. y ≡ 0 ∷ words x)) (λ e. m ≡ Err e)
    → OutSays n (given (drop 1) (said m)) number out → OutSays n (given words answer) number out
says_mapped {A} {answer} {number} {out} n r m words e f s =
    subst (λ (a : Answer (List ℕ)). OutSays n a number out) (by_cases r m f ∙ ap (given words) e) s
  where
    by_cases : (r : Result A AmvError) (m : Result (List ℕ) AmvError) → MatchResult r (λ x. IsOkAnd m (λ y. y ≡ 0 ∷ words x)) (λ e. m ≡ Err e)
        → given (drop 1) (said m) ≡ given words (said r)
    by_cases (Ok x) (Ok y) f = ap (λ (l : List ℕ). accepted (drop 1 l)) f
    by_cases (Ok x) (Err e) f = absurd f
    by_cases (Err e) m f = ap (λ (v : Result (List ℕ) AmvError). given (drop 1) (said v)) f

-- a number that is cast says the same
pub cast_says : (r m : Result ℕ AmvError) → MatchResult r (λ x. IsOkAnd m (λ y. y ≡ x)) (λ e. m ≡ Err e) → said m ≡ said r
cast_says (Ok x) (Ok y) f = ap accepted f
cast_says (Ok x) (Err e) f = absurd f
cast_says (Err e) m f = ap said f

-- ---- a state's words: the call goes on with the state that they spell

module _ {S : Type 0} {decoded : Answer S} {s : S} (e : decoded ≡ accepted s) where
  legal_says : (n : ℕ) (f : S → Answer (List ℕ)) {number : ℕ} {out : List ℕ} → OutSays n (f s) number out → OutSays n (and_then decoded f) number out
  legal_says n f {number} {out} said = subst (λ (a : Answer (List ℕ)). OutSays n a number out) (ap (λ d. and_then d f) (sym e)) said

  legal_leaves : (before : List ℕ) (after : S → List ℕ) → after s ≡ unless_refused before decoded after
  legal_leaves before after = ap (λ d. unless_refused before d after) (sym e)

-- ---- a read and a seek

module _ (n : ℕ) (answer : Walker → Answer (List ℕ)) (next : Walker → Walker) (ws : List ℕ) where
  pub walks : {w : Walker} {number : ℕ} {out after : List ℕ} → walker_of ws ≡ accepted w → OutSays n (answer w) number out
      → after ≡ walker_words (next w) → WalkerCall n answer next ws number out after
  walks e said o = record { says = legal_says e n answer said; walker = o ∙ legal_leaves e ws (λ w. walker_words (next w)) }

-- the words of a read's answer that is known
pub read_gave : (file : List ℕ) (w : Walker) {r : Read} {v : Result (Option Packet) AmvError} → said_read file r ≡ read_of file w → r.answer ≡ v
    → next_answer file w ≡ read_words w (said_next file v)
read_gave file w e t = ap (λ q. read_words w q.answer) (sym e) ∙ ap (λ v. read_words w (said_next file v)) t

-- a refused read gives back the walker, so its words are as they were
pub refused_read : (file ws : List ℕ) {w : Walker} {r : Read} {e : AmvError} {number : ℕ} {out : List ℕ} → length ws ≡ 7 → walker_of ws ≡ accepted w
    → said_read file r ≡ read_of file w → r.answer ≡ Err e → OutSays 7 (refused (refusal_of e)) number out
    → WalkerCall 7 (next_answer file) (next_walker file) ws number out ws
refused_read file ws {w} {r} {e} {number} {out} h legal m t s =
    walks 7 (next_answer file) (next_walker file) ws legal
    (subst (λ (a : Answer (List ℕ)). OutSays 7 a number out) (sym (read_gave file w m t)) s)
    (sym (words_stand.walker_kept ws w h legal)
    ∙ ap walker_words (sym (refused-stays file w (sym (ap (λ q. q.answer) m) ∙ ap (said_next file) t))))

-- ---- a step

module _ (file table ws block : List ℕ) where
  -- by its result, which is known
  pub steps : {w : Walker} {r : RegisterStep} {v : Result (Option Packet) AmvError} {number : ℕ} {out words after : List ℕ} → walker_of ws ≡ accepted w
      → MeetsStep file table w block r after → r.result ≡ v → words ≡ walker_words r.walker
      → OutSays 7 (given (shown_words w) (said_step file v)) number out → StepCall file table ws block number out words after
  steps {w} {number = number} {out = out} e m t o s =
      record {
        call =
            walks 7 (step_answer file table block) (step_walker file table block) ws e
            (subst (λ (a : Answer (List ℕ)). OutSays 7 a number out) (sym (gave (said_step file) (shown_words w) m.answer t)) s)
            (o ∙ ap walker_words m.walker);
        block = m.block ∙ legal_leaves e block (λ w. (step_of file table w block).block);
      }

  -- by its command that is performed, and by the block that is written of what is told and of the walker's marks
  pub steps_done : {w : Walker} (c : Option Call) {t : Told} {out words after : List ℕ} → walker_of ws ≡ accepted w → command_in block ≡ accepted c
      → DoneInWords w (perform file table w c) t out words → after ≡ block_told block t (mark_of (word words 4)) (mark_of (word words 5))
      → StepCall file table ws block 0 out words after
  unfolding step_of
  steps_done {w} c e q d b =
      let p = perform file table w c in
      let k : step_of file table w block ≡ stepped block p = ap (stepped_from file table w block) q in
      let end = ap (λ (l : List ℕ). mark_of (word l 4)) d.walker ∙ mark_back p.walker.end in
      let cut = ap (λ (l : List ℕ). mark_of (word l 5)) d.walker ∙ mark_back p.walker.cut in
      record {
        call =
            walks 7 (step_answer file table block) (step_walker file table block) ws e
            (says-accepted 7 (ap (λ s. given (shown_words w) s.answer) k) d.words) (d.walker ∙ ap (λ s. walker_words s.walker) (sym k));
        block =
            b ∙ block-told block p d.tells end cut ∙ ap (λ s. s.block) (sym k)
            ∙ legal_leaves e block (λ w. (step_of file table w block).block);
      }

-- ---- a writing call

module _ (call : Writer → WriteOutcome) (ws buf : List ℕ) where
  pub writes : {w : Writer} {r : Wrote} {number : ℕ} {out words after : List ℕ} → writer_of ws ≡ accepted w → MeetsOutcome (call w) r after
      → words ≡ writer_words r.writer → OutSays 1 (checked (said r.result)) number out → WriterCall call ws buf number out words after
  writes {number = number} {out = out} e m o s =
      record {
        says =
            legal_says e 1 (λ w. checked (call w).answer)
            (subst (λ (a : Answer (List ℕ)). OutSays 1 a number out) (ap checked m.answer) s);
        writer = o ∙ ap writer_words m.writer ∙ legal_leaves e ws (λ w. writer_words (call w).writer);
        buffer = m.buffer ∙ legal_leaves e buf (λ w. (call w).buffer);
      }

-- a packet moves the counts alone
outcome_counts : (q : Answer Unit) (w : Writer) (buf : List ℕ) (size stream : ℕ) (after : List ℕ)
    → let v = (outcome q w buf (after_packet w size stream) after).writer in
    v ≡ at_counts w v.written v.frames
outcome_counts (accepted u) w buf size stream after = refl
outcome_counts (refused r) w buf size stream after = refl

pub packet_words_kept : (ws buf payload : List ℕ) (stream : ℕ) {w : Writer} {r : Wrote} {after words : List ℕ} → writer_of ws ≡ accepted w
    → MeetsOutcome (packet_call w payload stream buf) r after → words ≡ counts_into r.writer.written r.writer.frames ws
    → words ≡ writer_words r.writer
unfolding packet_call
packet_words_kept ws buf payload stream {w} e m o =
    o
    ∙ ap (λ (v : Writer). counts_into v.written v.frames ws) m.writer
    ∙ counts_kept ws w _ _ e
    ∙ ap writer_words (sym (outcome_counts (packet_questions w (length payload) stream (length buf)) w buf (length payload) stream _))
    ∙ ap writer_words (sym m.writer)
