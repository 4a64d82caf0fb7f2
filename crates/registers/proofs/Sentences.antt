-- 02's sentences about the register block hold of its definition. A step that is accepted is what its command performs (`step_by`), so what is said
-- of a block that a command has written holds of every such step. Assumes nothing.
use mathlib.Core.Path.{◌≡◌, refl, sym, ap, subst, ◌∙◌}
use Rattle.std.proofs.Common.{Option, Some, None}
use Prim.Native.Nat.{ℕ, zero, suc, ◌+◌, ◌≤◌, ◌<◌}
use mathlib.Core.Bool.{Bool, true, false, not, cond, ◌&&◌, ◌||◌}
use mathlib.Core.List.{List, [], ◌∷◌}
use native.Mathlib.Omega.{arith}
use lib.Bits.{bit_and, bit_or}
use lib.Dec.{leb, eqb}
use lib.ListN.{length, length-drop}
use Rattle.error.specs.Answer.{Answer, accepted, numbered, ask}
use Rattle.error.specs.Answer as answer
use Rattle.error.specs.Sentences.{RefusedBy}
use Rattle.error.specs.declared.Refusal.{Refusal}
use Rattle.error.proofs.Answers.{clash, never, accepted-same}
use Rattle.fields.specs.Le.{Bytes}
use Rattle.fields.proofs.Laws.{length-le_bytes}
use Rattle.demuxer.specs.Packet.{Shown}
use Rattle.demuxer.specs.Read.{ReadAnswer, packet, End, read_of}
use Rattle.demuxer.specs.Read as read_answers
use Rattle.demuxer.specs.declared.walker.Walker.{Walker}
use Rattle.demuxer.proofs.Outcomes.{refused-stays}
use Rattle.seek.specs.Seek.{seek_of}
use Rattle.seek.proofs.Sentences.{seek_sentences}
use Rattle.recording.specs.Machine.{Call, read, seek, read_answer, seek_answer, call}
use Rattle.recording.proofs.Numbers.{Numbered, ReadNumbered, read-numbered, seek-numbered}
use Rattle.registers.specs.Registers.{byte, request_in, commanded, command_in, Done, nothing, gave, went, refused, done_of, Performed, perform, packet_of}
use Rattle.registers.specs.Registers.{refusal_number, done_bits, status_of, without, pending_of, request_after, block_after, stepped, stepped_from, step_of}
use Rattle.registers.specs.Sentences.{bit, Ready, Tells, Changed, RegisterSentences}
use Rattle.registers.proofs.Bits.{bit-bit_or, bit-bit_and, bit_not, bit_high}
use Rattle.registers.proofs.Blocks.{wrong_length, unknown-command, known-command, block-whole}

-- ---- the bits of status

unfoldable pub gave_packet : Option Shown → Bool
gave_packet None = false
gave_packet (Some p) = true

unfoldable pub is_refused : Done → Bool
is_refused nothing = false
is_refused (gave p) = false
is_refused (went stamp) = false
is_refused (refused r) = true

pub record StatusBits (d : Done) (end cut : Bool) : Type 0 where
  pub packet_bit : bit 0 (done_bits d + cond end 2 0 + cond cut 4 0) ≡ gave_packet (packet_of d)
  pub end_bit : bit 1 (done_bits d + cond end 2 0 + cond cut 4 0) ≡ end
  pub cut_bit : bit 2 (done_bits d + cond end 2 0 + cond cut 4 0) ≡ cut
  pub refused-bit : bit 3 (done_bits d + cond end 2 0 + cond cut 4 0) ≡ is_refused d
  pub small : done_bits d + cond end 2 0 + cond cut 4 0 < 16

status_bits : (d : Done) (end cut : Bool) → StatusBits d end cut
unfolding gave_packet is_refused
status_bits nothing true true = record { packet_bit = refl; end_bit = refl; cut_bit = refl; refused-bit = refl; small = omega arith }
status_bits nothing true false = record { packet_bit = refl; end_bit = refl; cut_bit = refl; refused-bit = refl; small = omega arith }
status_bits nothing false true = record { packet_bit = refl; end_bit = refl; cut_bit = refl; refused-bit = refl; small = omega arith }
status_bits nothing false false = record { packet_bit = refl; end_bit = refl; cut_bit = refl; refused-bit = refl; small = omega arith }
status_bits (gave p) true true = record { packet_bit = refl; end_bit = refl; cut_bit = refl; refused-bit = refl; small = omega arith }
status_bits (gave p) true false = record { packet_bit = refl; end_bit = refl; cut_bit = refl; refused-bit = refl; small = omega arith }
status_bits (gave p) false true = record { packet_bit = refl; end_bit = refl; cut_bit = refl; refused-bit = refl; small = omega arith }
status_bits (gave p) false false = record { packet_bit = refl; end_bit = refl; cut_bit = refl; refused-bit = refl; small = omega arith }
status_bits (went stamp) true true = record { packet_bit = refl; end_bit = refl; cut_bit = refl; refused-bit = refl; small = omega arith }
status_bits (went stamp) true false = record { packet_bit = refl; end_bit = refl; cut_bit = refl; refused-bit = refl; small = omega arith }
status_bits (went stamp) false true = record { packet_bit = refl; end_bit = refl; cut_bit = refl; refused-bit = refl; small = omega arith }
status_bits (went stamp) false false = record { packet_bit = refl; end_bit = refl; cut_bit = refl; refused-bit = refl; small = omega arith }
status_bits (refused r) true true = record { packet_bit = refl; end_bit = refl; cut_bit = refl; refused-bit = refl; small = omega arith }
status_bits (refused r) true false = record { packet_bit = refl; end_bit = refl; cut_bit = refl; refused-bit = refl; small = omega arith }
status_bits (refused r) false true = record { packet_bit = refl; end_bit = refl; cut_bit = refl; refused-bit = refl; small = omega arith }
status_bits (refused r) false false = record { packet_bit = refl; end_bit = refl; cut_bit = refl; refused-bit = refl; small = omega arith }

pub bits_of : (p : Performed) → StatusBits p.done p.walker.end p.walker.cut
bits_of p = status_bits p.done p.walker.end p.walker.cut

-- ---- the number of a refusal

DoneNumbered : Done → Type 0
DoneNumbered nothing = Unit
DoneNumbered (gave p) = Unit
DoneNumbered (went stamp) = Unit
DoneNumbered (refused r) = r.number ≡ 0 → ⊥

module _ (file table : List ℕ) (w : Walker) where
  read_done_lem : (a : ReadAnswer) → ReadNumbered a → DoneNumbered (done_of (read_answer a))
  unfolding DoneNumbered
  read_done_lem (packet p) n = tt
  read_done_lem End n = tt
  read_done_lem (read_answers.refused r) n = n

  seek-done : (a : Answer ℕ) → Numbered a → DoneNumbered (done_of (seek_answer a))
  unfolding DoneNumbered
  seek-done (accepted stamp) n = tt
  seek-done (answer.refused r) n = n

  done-numbered : (c : Option Call) → DoneNumbered (perform file table w c).done
  unfolding call
  done-numbered None = unfold DoneNumbered in tt
  done-numbered (Some read) = read_done_lem (read_of file w).answer (read-numbered file w)
  done-numbered (Some (seek stream request)) = seek-done (seek_of table w stream request).answer (seek-numbered table w stream request)

clear-number : (d : Done) → is_refused d ≡ false → refusal_number d ≡ 0
unfolding is_refused
clear-number nothing e = refl
clear-number (gave p) e = refl
clear-number (went stamp) e = refl
clear-number (refused r) e = clash refl e

number-clear : (d : Done) → DoneNumbered d → refusal_number d ≡ 0 → is_refused d ≡ false
unfolding is_refused DoneNumbered
number-clear nothing n e = refl
number-clear (gave p) n e = refl
number-clear (went stamp) n e = refl
number-clear (refused r) n e = absurd (n e)

-- ---- pending

-- one bit of it
pending-bit : (a b c d s : ℕ) (i : ℕ) → i < 8 → b < 256 → d < 256
    → bit i (bit_or (without a b) (bit_and c (without s d))) ≡ ((bit i a && not (bit i b)) || (bit i c && (not (bit i d) && bit i s)))
pending-bit a b c d s i h p q =
    bit-bit_or i (without a b) (bit_and c (without s d))
    ∙ (λ j. kept j || risen j)
  where
    swap : (x y : Bool) → (x && y) ≡ (y && x)
    swap true true = refl
    swap true false = refl
    swap false true = refl
    swap false false = refl

    kept : bit i (without a b) ≡ (bit i a && not (bit i b))
    kept = bit-bit_and i a _ ∙ ap (λ (x : Bool). bit i a && x) (bit_not i b h p)

    risen : bit i (bit_and c (without s d)) ≡ (bit i c && (not (bit i d) && bit i s))
    risen =
        bit-bit_and i c (without s d)
        ∙ ap (λ (x : Bool). bit i c && x) (bit-bit_and i s _ ∙ ap (λ (x : Bool). bit i s && x) (bit_not i d h q) ∙ swap (bit i s) (not (bit i d)))

-- ---- bytes that are not written

abbrev Kept : List ℕ → List ℕ → Type 0
Kept block after = (byte after 2 ≡ byte block 2) × (byte after 6 ≡ byte block 6) × (byte after 7 ≡ byte block 7)

-- ---- the steps of a file and a table

-- what the command of a block that is ready does
abbrev did : List ℕ → List ℕ → Walker → List ℕ → Performed
did file table w block = perform file table w (commanded (byte block 0) (request_in block))

module _ (file table : List ℕ) where
  -- a step that is accepted
  pub step_by : (w : Walker) (block : List ℕ) {c : Option Call} → command_in block ≡ accepted c
      → step_of file table w block ≡ stepped block (perform file table w c)
  unfolding step_of
  step_by w block e = ap (stepped_from file table w block) e

  step_not : (w : Walker) (block : List ℕ) {r : Refusal} → command_in block ≡ answer.refused r
      → step_of file table w block ≡ record { answer = answer.refused r; walker = w; block = block }
  unfolding step_of
  step_not w block e = ap (stepped_from file table w block) e

  command_of : (block : List ℕ) → Ready block → command_in block ≡ accepted (commanded (byte block 0) (request_in block))
  command_of block r = known-command block (byte block 0) r.whole refl r.known

  -- ---- by the command

  -- what a step tells of what its command has done
  abbrev TellsOf : Walker → List ℕ → Walker → Done → Type 0
  TellsOf w block left d = Tells (step_of file table w block) (packet_of d) left (refusal_number d) (request_after block d)

  tells : (w : Walker) (block : List ℕ) (c : Option Call) {p : Option Shown} {left : Walker} {number : ℕ} {request : List ℕ}
      → command_in block ≡ accepted c → packet_of (perform file table w c).done ≡ p → (perform file table w c).walker ≡ left
      → refusal_number (perform file table w c).done ≡ number → request_after block (perform file table w c).done ≡ request
      → Tells (step_of file table w block) p left number request
  unfolding block_after
  tells w block c e a b n r = rw (step_by w block e) (record { packet_is = ap accepted a; walker_is = b; number_is = n; request_is = r })

  read-tells : (w : Walker) (block : List ℕ) (a : ReadAnswer) {left : Walker} → length block ≡ 16 → byte block 0 ≡ 1 → (read_of file w).answer ≡ a
      → (read_of file w).walker ≡ left
      → TellsOf w block left (done_of (read_answer a))
  unfolding commanded call
  read-tells w block a l k e f =
      tells w block (Some read) (known-command block 1 l k (omega arith)) (ap (λ (a : ReadAnswer). packet_of (done_of (read_answer a))) e) f
      (ap (λ (a : ReadAnswer). refusal_number (done_of (read_answer a))) e) (ap (λ (a : ReadAnswer). request_after block (done_of (read_answer a))) e)

  seek-command : (block : List ℕ) (stream : ℕ) → length block ≡ 16 → stream ≤ 1 → byte block 0 ≡ 2 + stream
      → command_in block ≡ accepted (Some (seek stream (request_in block)))
  unfolding commanded
  seek-command block zero l h k = known-command block 2 l k (omega arith)
  seek-command block (suc zero) l h k = known-command block 3 l k (omega arith)
  seek-command block (suc (suc n)) l h k = absurd (omega arith)

  seek-tells : (w : Walker) (block : List ℕ) (stream : ℕ) (a : Answer ℕ) {left : Walker} → length block ≡ 16 → stream ≤ 1 → byte block 0 ≡ 2 + stream
      → (seek_of table w stream (request_in block)).answer ≡ a → (seek_of table w stream (request_in block)).walker ≡ left
      → TellsOf w block left (done_of (seek_answer a))
  unfolding call
  seek-tells w block stream a l h k e f =
      tells w block (Some (seek stream (request_in block))) (seek-command block stream l h k)
      (ap (λ (a : Answer ℕ). packet_of (done_of (seek_answer a))) e) f
      (ap (λ (a : Answer ℕ). refusal_number (done_of (seek_answer a))) e) (ap (λ (a : Answer ℕ). request_after block (done_of (seek_answer a))) e)

  -- ---- accepted or refused

  numbers_of : (w : Walker) (block : List ℕ) → RefusedBy (74 ∷ 75 ∷ []) (step_of file table w block).answer
  unfolding step_of command_in
  numbers_of w block = go (eqb (length block) 16) (leb (byte block 0) 3)
    where
      go : (a b : Bool) → RefusedBy (74 ∷ 75 ∷ [])
          (stepped_from file table w block (ask a 74 0 (ask b 75 0 (accepted (commanded (byte block 0) (request_in block)))))).answer
      go true true = tt
      go true false = refl
      go false b = refl

  given_back : (s : Changed) (r : Refusal) → (step_of file table s.walker s.block).answer ≡ answer.refused r
      → ◌≡◌ {A = Changed}
      (record { walker = (step_of file table s.walker s.block).walker; block = (step_of file table s.walker s.block).block }) s
  given_back s r h = go (command_in s.block) refl
    where
      go : (d : Answer (Option Call)) → command_in s.block ≡ d
          → ◌≡◌ {A = Changed}
          (record { walker = (step_of file table s.walker s.block).walker; block = (step_of file table s.walker s.block).block }) s
      go (accepted c) e = never (rw (step_by s.walker s.block e) at h)
      go (answer.refused q) e = rw (step_not s.walker s.block e)

  -- bit 0, by the packet that was answered
  packet-told : (w : Walker) (block : List ℕ) (p : Option Shown) → (step_of file table w block).answer ≡ accepted p
      → bit 0 (byte (step_of file table w block).block 1) ≡ gave_packet p
  unfolding block_after
  packet-told w block p h = go (command_in block) refl
    where
      go : (d : Answer (Option Call)) → command_in block ≡ d → bit 0 (byte (step_of file table w block).block 1) ≡ gave_packet p
      go (accepted c) e =
          let q : accepted (packet_of (perform file table w c).done) ≡ accepted p = rw (step_by w block e) at h in
          rw (step_by w block e) ((bits_of (perform file table w c)).packet_bit ∙ ap gave_packet (accepted-same q))
      go (answer.refused r) e = never (sym (rw (step_not w block e) at h))

  pending_of_lem : (w : Walker) (block : List ℕ) → Ready block → Bytes block → (i : ℕ) → i < 8
      → bit i (byte (step_of file table w block).block 3)
      ≡ ((bit i (byte block 3) && not (bit i (byte block 4)))
      || (bit i (byte block 2) && (not (bit i (byte block 1)) && bit i (byte (step_of file table w block).block 1))))
  unfolding block_after pending_of Bytes
  pending_of_lem w block r all i h =
      rw (step_by w block (command_of block r))
      (pending-bit (byte block 3) (byte block 4) (byte block 2) (byte block 1) _ i h (all 4) (all 1))

  or_left : (a b : Bool) → a ≡ true → (a || b) ≡ true
  or_left true b e = refl
  or_left false b e = clash e refl

  or_right : (a b : Bool) → b ≡ true → (a || b) ≡ true
  or_right true b e = refl
  or_right false b e = e

  kept_of : (w : Walker) (block : List ℕ) → Kept block (step_of file table w block).block
  unfolding block_after
  kept_of w block = go (command_in block) refl
    where
      go : (d : Answer (Option Call)) → command_in block ≡ d → Kept block (step_of file table w block).block
      go (accepted c) e = subst (λ s. Kept block s.block) (sym (step_by w block e)) (refl, refl, refl)
      go (answer.refused r) e = subst (λ s. Kept block s.block) (sym (step_not w block e)) (refl, refl, refl)

  request-length : (block : List ℕ) (d : Done) → length block ≡ 16 → length (request_after block d) ≡ 8
  request-length block nothing l = omega (arith, length-drop 8 block)
  request-length block (gave p) l = length-le_bytes 8 p.stamp
  request-length block (went stamp) l = length-le_bytes 8 stamp
  request-length block (refused r) l = omega (arith, length-drop 8 block)

  length_of : (w : Walker) (block : List ℕ) → length (step_of file table w block).block ≡ length block
  unfolding block_after
  length_of w block = go (command_in block) refl
    where
      go : (d : Answer (Option Call)) → command_in block ≡ d → length (step_of file table w block).block ≡ length block
      go (accepted c) e =
          let l = block-whole block e in
          let n = request-length block (perform file table w c).done l in
          ap (λ s. length s.block) (step_by w block e) ∙ omega arith
      go (answer.refused r) e = ap (λ s. length s.block) (step_not w block e)

  pub register_sentences : RegisterSentences file table
  unfolding block_after gave_packet
  register_sentences =
      record {
        seventy_four = λ w block n. ap (λ s. s.answer) (step_not w block (wrong_length block n));
        seventy_five = λ w block l h. ap (λ s. s.answer) (step_not w block (unknown-command block l h));
        accepts = λ w block r. (_, ap (λ s. s.answer) (step_by w block (command_of block r)));
        numbers = numbers_of;
        gives_back = given_back;
        idle = λ w block l k. unfold commanded in tells w block None (known-command block 0 l k (omega arith)) refl refl refl refl;
        read_gave = λ w block p l k e. read-tells w block (packet p) l k e refl;
        read_ended = λ w block l k e. read-tells w block End l k e refl;
        read_refused = λ w block r l k e. read-tells w block (read_answers.refused r) l k e (refused-stays file w e);
        went = λ w block stream stamp l h k e. seek-tells w block stream (accepted stamp) l h k e refl;
        seek_refused = λ w block stream r l h k e.
            seek-tells w block stream (answer.refused r) l h k e (seek_sentences.gives_back table stream (request_in block) w r e);
        packet_bit = λ w block p h. packet-told w block (Some p) h;
        no_packet_bit = λ w block h. packet-told w block None h;
        end_bit = λ w block r. rw (step_by w block (command_of block r)) (bits_of (did file table w block)).end_bit;
        cut_bit = λ w block r. rw (step_by w block (command_of block r)) (bits_of (did file table w block)).cut_bit;
        clear = λ w block r.
            let p = did file table w block in
            rw (step_by w block (command_of block r)) (λ h. clear-number p.done (sym (bits_of p).refused-bit ∙ h));
        unrefused = λ w block r.
            let p = did file table w block in
            let n = done-numbered file table w (commanded (byte block 0) (request_in block)) in
            rw (step_by w block (command_of block r)) (λ h. (bits_of p).refused-bit ∙ number-clear p.done n h);
        high_bits = λ w block r i h.
            let p = did file table w block in
            rw (step_by w block (command_of block r)) (bit_high i (status_of p) h (bits_of p).small);
        pending = pending_of_lem;
        stays = λ w block r all i h p a.
            pending_of_lem w block r all i h ∙ or_left (bit i (byte block 3) && not (bit i (byte block 4))) _ (rw (p, a));
        never_lost = λ w block r all i h e o n.
            pending_of_lem w block r all i h
            ∙ or_right (bit i (byte block 3) && not (bit i (byte block 4)))
            (bit i (byte block 2) && (not (bit i (byte block 1)) && bit i (byte (step_of file table w block).block 1))) (rw (e, o, n));
        zeroed = λ w block r. rw (step_by w block (command_of block r)) (refl, refl);
        kept = kept_of;
        same_length = length_of;
      }
