-- What a call's number and words say is what the call by value answers: a read names its payload by where it stands and how long it is, and
-- no refusal has the number 0. Assumes nothing.
use mathlib.Core.Path.{◌≡◌, refl, sym, ap, subst, ◌∙◌}
use Rattle.std.proofs.Common.{Option, Some, None}
use Prim.Native.Nat.{ℕ, ◌+◌, ◌≤◌}
use mathlib.Core.Bool.{Bool, true, false, cond}
use mathlib.Core.List.{List}
use native.Mathlib.Omega.{arith}
use borrow.Author.Tests.{le-leb, ne_eqb, leb-true}
use lib.Dec.{leb, eqb}
use lib.ListN.{length, take, drop, length-take, length-drop}
use Rattle.error.specs.Answer.{Answer, accepted, refused}
use Rattle.fields.specs.File.{within_limit}
use Rattle.demuxer.specs.Head.{head_at, count_of}
use Rattle.demuxer.specs.Packet.{Shown, packet_duration, payload_of, shown_of}
use Rattle.demuxer.specs.Position.{in_range}
use Rattle.demuxer.specs.Read.{ReadAnswer, packet, End, Reading, refuse, payload_at, cut_off, read_frame, read_sound, read_head, read_chunk, read_of}
use Rattle.demuxer.specs.Read as read_answers
use Rattle.demuxer.specs.declared.head.Head.{Head}
use Rattle.demuxer.specs.declared.head.Head.TheVariants as head
use Rattle.demuxer.specs.declared.packet.Packet.{Packet}
use Rattle.demuxer.specs.declared.walker.Walker.{Walker}
use Rattle.demuxer.specs.Sentences.{as_answer}
use Rattle.recording.specs.Machine.{Call, read, seek, read_answer, seek_answer, call}
use Rattle.registers.specs.Registers.{command_in, done_of, packet_of, stepped_from, step_of}
use Rattle.seek.specs.Seek.{seek_of}
use Rattle.words.specs.Out.{OutSays, given, checked, shown_duration, shown_words, read_words}
use Rattle.words.specs.State.{word}
use Rattle.capi.specs.Calls.{single}
use Rattle.capi.specs.Lists.{answered, packet_in, read_in, step_in}

-- ---- a packet, by the place and the length of its payload

-- the payload is the part of the file from past the cursor's 8 bytes on, and no duration is 0
record Named (file : List ℕ) (w : Walker) (p : Shown) : Type 0 where
  inside : w.position.cursor + 8 + length p.payload ≤ length file
  payload-is : p.payload ≡ take (length p.payload) (drop (w.position.cursor + 8) file)
  duration-is : (packet_duration (shown_duration p.duration)) ≡ p.duration

AnswerNamed : List ℕ → Walker → ReadAnswer → Type 0
AnswerNamed file w (packet p) = Named file w p
AnswerNamed file w End = Unit
AnswerNamed file w (read_answers.refused r) = Unit

-- a duration that is shown as none where it is 0
shown_back : (n : ℕ) → (packet_duration (shown_duration ((packet_duration n)))) ≡ (packet_duration n)
shown_back n = go _ refl
  where
    go : (b : Bool) → eqb n 0 ≡ b → (packet_duration (shown_duration ((cond b None (Some n))))) ≡ (cond b None (Some n))
    go true e = refl
    go false e = rw e

module _ (file : List ℕ) (w : Walker) where
  named : (size stream stamp : ℕ) (duration : Option ℕ) → leb (w.position.cursor + 8 + size) (length file) ≡ true
      → (packet_duration (shown_duration duration)) ≡ duration
      → Named file w (record { stream = stream; payload = payload_at file w.position.cursor size; stamp = stamp; duration = duration })
  named size stream stamp duration h d =
      let l : w.position.cursor + 8 + size ≤ length file = leb-true _ _ h in
      let n : length (payload_at file w.position.cursor size) ≡ size = simp (length-take, length-drop) (omega arith) in
      record {
        inside = omega (arith, n, l);
        payload-is = ap (λ (k : ℕ). take k (drop (w.position.cursor + 8) file)) (sym n);
        duration-is = d;
      }

  -- a payload that is whole, or End
  whole : (size stream stamp : ℕ) (duration : Option ℕ) (next : Walker) (b : Bool) → leb (w.position.cursor + 8 + size) (length file) ≡ b
      → (packet_duration (shown_duration duration)) ≡ duration
      → AnswerNamed file w
      (cond {A = Reading} b
      (record {
        answer =
            packet (record { stream = stream; payload = payload_at file w.position.cursor size; stamp = stamp; duration = duration });
        walker = next;
      })
      (record { answer = End; walker = cut_off w })).answer
  unfolding AnswerNamed
  whole size stream stamp duration next true h d = named size stream stamp duration h d
  whole size stream stamp duration next false h d = tt

  head_named : (h : Head) → AnswerNamed file w (read_head file w h).answer
  unfolding AnswerNamed read_frame read_sound
  head_named head.Short = tt
  head_named head.Trailer = tt
  head_named head.Unknown = tt
  head_named (head.Video size) = whole size 0 _ (Some 1) _ _ refl refl
  head_named (head.Audio size) = whole size 1 _ _ _ _ refl (shown_back (count_of (payload_at file w.position.cursor size)))

  read_named : AnswerNamed file w (read_of file w).answer
  unfolding AnswerNamed read_of read_chunk
  read_named = go (within_limit file) (in_range w.position) w.end
    where
      go : (a b e : Bool)
          → AnswerNamed file w
          (cond a (cond b (cond e (record { answer = End; walker = w }) (read_chunk file w)) (refuse 32 0 w)) (refuse 10 0 w)).answer
      go false b e = tt
      go true false e = tt
      go true true true = tt
      go true true false = head_named (head_at file w.position.cursor)

  -- ---- a read

  payload_named : (p : Shown) → Named file w p → (q : Packet) → q.start ≡ w.position.cursor + 8 → q.len ≡ length p.payload
      → payload_of file q ≡ p.payload
  unfolding payload_of
  payload_named p n q a b = rw (a, b, le-leb _ _ n.inside) (sym n.payload-is)

  read-says : (a : ReadAnswer) → AnswerNamed file w a → (number : ℕ) (out : List ℕ) → OutSays 7 (read_words w a) number out
      → read_in file number out ≡ a
  unfolding AnswerNamed read_in shown_of
  read-says (packet p) n number out s =
      let first : word out 1 ≡ 1 = ap (λ (l : List ℕ). word l 1) s.words in
      let start : word out 3 ≡ w.position.cursor + 8 = ap (λ (l : List ℕ). word l 3) s.words in
      let len : word out 4 ≡ length p.payload = ap (λ (l : List ℕ). word l 4) s.words in
      let payload : payload_of file (packet_in out) ≡ p.payload = payload_named p n (packet_in out) start len in
      let duration : (packet_duration (word out 6)) ≡ p.duration =
      ap (λ (l : List ℕ). (packet_duration (word l 6))) s.words ∙ n.duration-is in
      rw (s.number, first)
      (λ i. packet (record { stream = word (s.words i) 2; payload = payload i; stamp = word (s.words i) 5; duration = duration i }))
  read-says End n number out s = rw (s.number, s.words) refl
  read-says (read_answers.refused r) n number out s =
      let d : number ≡ 0 → ⊥ = s.zero in
      rw (ne_eqb number 0 d) (λ i. read_answers.refused (record { number = s.number i; place = word (s.words i) 0 }))

  pub read_told : {number : ℕ} {out : List ℕ} → OutSays 7 (read_words w (read_of file w).answer) number out
      → read_in file number out ≡ (read_of file w).answer
  read_told s = read-says _ read_named _ _ s

  -- ---- a step: its packet is that of its read

  -- its answer as that of a read
  as_read : Answer (Option Shown) → ReadAnswer
  as_read (accepted None) = End
  as_read (accepted (Some p)) = packet p
  as_read (refused r) = read_answers.refused r

  read_back : (a : Answer (Option Shown)) → as_answer (as_read a) ≡ a
  unfolding as_read
  read_back (accepted None) = refl
  read_back (accepted (Some p)) = refl
  read_back (refused r) = refl

  same-words : (a : Answer (Option Shown)) → given (shown_words w) a ≡ read_words w (as_read a)
  unfolding as_read
  same-words (accepted None) = refl
  same-words (accepted (Some p)) = refl
  same-words (refused r) = refl

  of_read : (a : ReadAnswer) → AnswerNamed file w a → AnswerNamed file w (as_read (accepted (packet_of (done_of (read_answer a)))))
  unfolding as_read AnswerNamed
  of_read (packet p) n = n
  of_read End n = tt
  of_read (read_answers.refused r) n = tt

  of_seek : (a : Answer ℕ) → AnswerNamed file w (as_read (accepted (packet_of (done_of (seek_answer a)))))
  unfolding as_read AnswerNamed
  of_seek (accepted stamp) = tt
  of_seek (refused r) = tt

  step_named : (table block : List ℕ) → AnswerNamed file w (as_read (step_of file table w block).answer)
  unfolding step_of
  step_named table block = go (command_in block)
    where
      go : (d : Answer (Option Call)) → AnswerNamed file w (as_read (stepped_from file table w block d).answer)
      go (accepted None) = unfold as_read AnswerNamed in tt
      go (accepted (Some read)) = unfold call in of_read (read_of file w).answer read_named
      go (accepted (Some (seek stream request))) = unfold call in of_seek (seek_of table w stream request).answer
      go (refused r) = unfold as_read AnswerNamed in tt

  pub step-told : (table block : List ℕ) {number : ℕ} {out : List ℕ}
      → OutSays 7 (given (shown_words w) (step_of file table w block).answer) number out → step_in file number out ≡ (step_of file table w block).answer
  step-told table block {number} {out} s =
      let a = (step_of file table w block).answer in
      ap as_answer (read-says (as_read a) (step_named table block) number out (subst (λ (d : Answer (List ℕ)). OutSays 7 d number out) (same-words a) s))
      ∙ read_back a

-- ---- a seek and a writing call

pub seek-told : (a : Answer ℕ) {number : ℕ} {out : List ℕ} → OutSays 2 (given single a) number out → answered number out (word out 1) ≡ a
seek-told (accepted stamp) s = rw (s.number, s.words) refl
seek-told (refused r) {number} {out} s =
    let d : number ≡ 0 → ⊥ = s.zero in
    rw (ne_eqb number 0 d) (λ i. refused (record { number = s.number i; place = word (s.words i) 0 }))

pub write-told : (a : Answer Unit) {number : ℕ} {out : List ℕ} → OutSays 1 (checked a) number out → answered number out tt ≡ a
write-told (accepted u) s = rw s.number refl
write-told (refused r) {number} {out} s =
    let d : number ≡ 0 → ⊥ = s.zero in
    rw (ne_eqb number 0 d) (λ i. refused (record { number = s.number i; place = word (s.words i) 0 }))
