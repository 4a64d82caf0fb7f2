-- A read or a seek over words in a step: its number fits the block's byte, and the command that it performs. Assumes nothing.
use mathlib.Core.Path.{◌≡◌, refl}
use Prim.Native.Nat.{ℕ, ◌<◌}
use mathlib.Core.Bool.{Bool, true, false, ◌&&◌, ◌||◌}
use mathlib.Core.List.{List, [], ◌∷◌}
use native.Mathlib.Omega.{arith}
use borrow.Author.Tests.{leb-true, eqb-true}
use lib.Dec.{leb, eqb}
use lib.IntN.{ℤ}
use Rattle.error.specs.Answer.{Answer, accepted, refused, number_of, ask, and_then}
use Rattle.error.specs.Sentences.{one_of, RefusedBy}
use Rattle.error.proofs.Answers.{clash, both}
use Rattle.demuxer.specs.Read.{ReadAnswer, packet, End, read_of}
use Rattle.demuxer.specs.Read as read_answers
use Rattle.demuxer.specs.Sentences.{as_answer}
use Rattle.demuxer.proofs.Sentences.{read_sentences}
use Rattle.demuxer.specs.declared.walker.Walker.{Walker}
use Rattle.recording.specs.Machine.{call}
use Rattle.registers.specs.Registers.{perform}
use Rattle.registers.specs.Steps.{call_of}
use Rattle.registers.specs.declared.Command.{Command}
use Rattle.registers.specs.declared.Command.TheVariants as command
use Rattle.registers.specs.declared.Told.{Told}
use Rattle.seek.specs.Seek.{seek_of}
use Rattle.seek.proofs.Sentences.{seek_sentences}
use Rattle.words.specs.Out.{given, read_words}
use Rattle.words.specs.State.{walker_legal, walker_of}
use Rattle.capi.specs.Calls.{single, WalkerCall, next_answer, next_walker, seek_answer, seek_walker}
use Rattle.capi.specs.Steps.{DoneInWords, read_performed, seek_performed}

-- ---- the number of a refusal fits a byte

each_fits : List ℕ → Bool
each_fits [] = true
each_fits (m ∷ ms) = leb m 255 && each_fits ms

listed_fits : (ms : List ℕ) (n : ℕ) → each_fits ms ≡ true → one_of ms n ≡ true → n < 256
unfolding each_fits
listed_fits [] n f e = clash e refl
listed_fits (m ∷ ms) n f e = go (eqb m n) refl e (listed_fits ms n (both (leb m 255) (each_fits ms) f).1)
  where
    go : (b : Bool) → eqb m n ≡ b → (b || one_of ms n) ≡ true → (one_of ms n ≡ true → n < 256) → n < 256
    go true h k later = omega (arith, eqb-true m n h, leb-true m 255 (both (leb m 255) (each_fits ms) f).0)
    go false h k later = later k

walker-fits : (ws : List ℕ) → number_of (walker_of ws) < 256
walker-fits ws = go (walker_legal ws) _
  where
    go : (b : Bool) (w : Walker) → number_of (ask b 1 0 (accepted w)) < 256
    go true w = omega arith
    go false w = omega arith

then-fits : {A B : Type 0} (a : Answer A) (f : A → Answer B) → number_of a < 256 → ((x : A) → number_of (f x) < 256) → number_of (and_then a f) < 256
then-fits (accepted x) f h k = k x
then-fits (refused r) f h k = h

call_fits : (n : ℕ) (answer : Walker → Answer (List ℕ)) (next : Walker → Walker) (ws : List ℕ) {number : ℕ} {out after : List ℕ}
    → ((w : Walker) → number_of (answer w) < 256) → WalkerCall n answer next ws number out after → number < 256
call_fits n answer next ws k c = omega (arith, c.says.number, then-fits (walker_of ws) answer (walker-fits ws) k)

pub read_fits : (file ws : List ℕ) {number : ℕ} {out after : List ℕ} → WalkerCall 7 (next_answer file) (next_walker file) ws number out after
    → number < 256
unfolding each_fits
read_fits file ws c = call_fits 7 (next_answer file) (next_walker file) ws (λ w. go w (read_of file w).answer (read_sentences.numbers file w)) c
  where
    go : (w : Walker) (a : ReadAnswer) → RefusedBy (10 ∷ 32 ∷ 31 ∷ []) (as_answer a) → number_of (read_words w a) < 256
    go w (packet p) h = omega arith
    go w End h = omega arith
    go w (read_answers.refused r) h = listed_fits (10 ∷ 32 ∷ 31 ∷ []) r.number refl h

pub seek_fits : (table ws : List ℕ) (stream : ℕ) (request : ℤ) {number : ℕ} {out after : List ℕ}
    → WalkerCall 2 (seek_answer table stream request) (seek_walker table stream request) ws number out after → number < 256
unfolding each_fits
seek_fits table ws stream request c =
    call_fits 2 (seek_answer table stream request) (seek_walker table stream request) ws
    (λ w. go (seek_of table w stream request).answer (seek_sentences.numbers table w stream request)) c
  where
    go : (a : Answer ℕ) → RefusedBy (42 ∷ 41 ∷ 43 ∷ 32 ∷ []) a → number_of (given single a) < 256
    go (accepted stamp) h = omega arith
    go (refused r) h = listed_fits (42 ∷ 41 ∷ 43 ∷ 32 ∷ []) r.number refl h

-- ---- a command that is known

module _ (file table : List ℕ) (w : Walker) {c : Command} where
  pub read_is : {t : Told} {out words : List ℕ} → c ≡ command.Read → DoneInWords w (read_performed file w) t out words
      → DoneInWords w (perform file table w (call_of c)) t out words
  unfolding call
  read_is e d = rw e d

  pub seek_is : {stream request : ℕ} {t : Told} {out words : List ℕ} → c ≡ command.Seek stream request
      → DoneInWords w (seek_performed table stream request w) t out words → DoneInWords w (perform file table w (call_of c)) t out words
  unfolding call
  seek_is e d = rw e d
