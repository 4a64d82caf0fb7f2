-- No refusal of a call has the number 0: its number is one of those that 01's sentences list. Assumes nothing.
use mathlib.Core.Path.{◌≡◌, refl, ap, ◌∙◌}
use Prim.Native.Nat.{ℕ, ◌≤◌}
use mathlib.Core.Bool.{Bool, true, false}
use mathlib.Core.List.{List, [], ◌∷◌}
use native.Mathlib.Omega.{arith}
use lib.IntN.{ℤ}
use Rattle.error.specs.Answer.{Answer, accepted, refused, ask, and_then}
use Rattle.error.specs.Sentences.{one_of, RefusedBy}
use Rattle.error.proofs.Answers.{clash}
use Rattle.demuxer.specs.Read.{ReadAnswer, End, read_of}
use Rattle.demuxer.specs.Read as read
use Rattle.demuxer.specs.Sentences.{as_answer}
use Rattle.demuxer.specs.declared.walker.Walker.{Walker}
use Rattle.demuxer.proofs.Sentences.{read_sentences}
use Rattle.seek.specs.Seek.{seek_of}
use Rattle.seek.proofs.Sentences.{seek_sentences}
use Rattle.muxer.specs.Writer.{header_call, packet_call, trailer_call}
use Rattle.muxer.specs.declared.Writer.{Writer}
use Rattle.muxer.proofs.Sentences.{write_sentences}
use Rattle.recording.specs.WriteLists.{WriteCall, header, packet, trailer, write_step}

abbrev pub Numbered : {A : Type 0} → Answer A → Type 0
Numbered (accepted x) = Unit
Numbered (refused r) = r.number ≡ 0 → ⊥

pub ask-numbered : {A : Type 0} (b : Bool) (n place : ℕ) (rest : Answer A) → 1 ≤ n → Numbered rest → Numbered (ask b n place rest)
ask-numbered true n place rest h k = k
ask-numbered false n place rest h k = λ e. omega arith

pub then-numbered : {A B : Type 0} (a : Answer A) (rest : A → Answer B) → Numbered a → ((x : A) → Numbered (rest x))
    → Numbered (and_then a rest)
then-numbered (accepted x) rest k h = h x
then-numbered (refused r) rest k h = k

-- a list of numbers without 0; that it is this list, the call's sentence says
listed : {A : Type 0} (numbers : List ℕ) (a : Answer A) → RefusedBy numbers a → one_of numbers 0 ≡ false → Numbered a
listed numbers (accepted x) h n = tt
listed numbers (refused r) h n = λ e. clash h (ap (one_of numbers) e ∙ n)

abbrev pub ReadNumbered : ReadAnswer → Type 0
ReadNumbered (read.packet p) = Unit
ReadNumbered End = Unit
ReadNumbered (read.refused r) = r.number ≡ 0 → ⊥

as_read : (a : ReadAnswer) → Numbered (as_answer a) → ReadNumbered a
as_read (read.packet p) n = tt
as_read End n = tt
as_read (read.refused r) n = n

pub read-numbered : (file : List ℕ) (w : Walker) → ReadNumbered (read_of file w).answer
read-numbered file w = as_read (read_of file w).answer (listed (10 ∷ 32 ∷ 31 ∷ []) (as_answer (read_of file w).answer) (read_sentences.numbers file w) refl)

pub seek-numbered : (table : List ℕ) (w : Walker) (stream : ℕ) (request : ℤ) → Numbered (seek_of table w stream request).answer
seek-numbered table w stream request =
    listed (42 ∷ 41 ∷ 43 ∷ 32 ∷ []) (seek_of table w stream request).answer (seek_sentences.numbers table w stream request) refl

pub step-numbered : (w : Writer) (buf : List ℕ) (c : WriteCall) → Numbered (write_step w buf c).answer
unfolding write_step
step-numbered w buf header =
    listed (50 ∷ 55 ∷ 56 ∷ 54 ∷ []) (header_call w buf).answer (write_sentences.header.numbered (record { writer = w; buffer = buf })) refl
step-numbered w buf (packet payload stream) =
    listed (51 ∷ 55 ∷ 56 ∷ 52 ∷ 53 ∷ 54 ∷ []) (packet_call w payload stream buf).answer ((write_sentences.packet payload stream).numbered (record { writer = w; buffer = buf })) refl
step-numbered w buf trailer =
    listed (51 ∷ 55 ∷ 56 ∷ 54 ∷ []) (trailer_call w buf).answer (write_sentences.trailer.numbered (record { writer = w; buffer = buf })) refl
