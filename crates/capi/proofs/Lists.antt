-- Calls through words are 01's calls: the words spell a state before each call and after it, and what the call returns and writes says what
-- the call by value answers; so 01's claims hold of every list of them. Assumes nothing.
use mathlib.Core.Path.{◌≡◌, refl, sym, ap, subst, ◌∙◌}
use Rattle.error.specs.Refusal.{said}
use Rattle.std.proofs.Common.{Option, Some, None}
use Prim.Native.Nat.{ℕ, ◌+◌}
use mathlib.Core.Bool.{Bool, true, false, cond}
use mathlib.Core.List.Memᴰ
use mathlib.Core.List.{List, [], Memᴰ}
use native.Mathlib.Omega.{arith}
use borrow.Author.Tests.{ne_eqb, leb-true}
use lib.Dec.{leb, eqb}
use lib.ListN.{length, take}
use Rattle.fields.specs.Capped.{u32_max}
use Rattle.error.specs.Answer.{Answer, accepted, refused, numbered, number_of, and_then}
use Rattle.error.proofs.Answers.{both}
use Rattle.fields.specs.File.{within_limit}
use Rattle.demuxer.specs.Position.{in_range}
use Rattle.demuxer.specs.Head.{head_at}
use Rattle.demuxer.specs.Read.{ReadAnswer, End, Reading, refuse, read_frame, read_sound, read_head, read_chunk, read_of}
use Rattle.demuxer.specs.Read as demuxer
use Rattle.demuxer.proofs.Ranges.{range_facts}
use Rattle.demuxer.specs.declared.head.Head.{Head}
use Rattle.demuxer.specs.declared.head.Head.TheVariants as head
use Rattle.demuxer.specs.declared.walker.Walker.{Walker}
use Rattle.seek.specs.Seek.{seek_of}
use Rattle.seek.proofs.Sentences.{seek_sentences}
use Rattle.muxer.specs.Writer.{outcome, header_questions, header_call, packet_questions, packet_call, trailer_questions, trailer_call}
use Rattle.muxer.specs.Writer as muxer
use Rattle.muxer.specs.declared.Settings.{Settings}
use Rattle.muxer.specs.declared.Writer.{Writer}
use Rattle.recording.specs.Machine.{Call, read, seek, CallAnswer, read_answer, call}
use Rattle.recording.specs.Machine as machine
use Rattle.recording.specs.WriteLists.{WriteCall, header, packet, trailer, write_step, Held, WritesAgreed}
use Rattle.recording.specs.Lists.{CallsRan, no_call, one_more, Calling, Lent, Writing, accepted_by}
use Rattle.recording.proofs.Numbers.{Numbered, ask-numbered, then-numbered, ReadNumbered, read-numbered, seek-numbered, step-numbered}
use Rattle.recording.proofs.Runs.{every_list}
use Rattle.registers.specs.Registers.{byte, command_in, stepped_from, step_of}
use Rattle.registers.specs.Lists.{StepAnswer, SteppingAs}
use Rattle.registers.proofs.Lists.{every_step}
use Rattle.words.specs.Out.{OutSays, out_of, checked, unless_refused, shown_words, read_words}
use Rattle.words.specs.State.{word, not_met, trailer_of, trailer_word, walker_legal, walker_of, walker_words, settings_legal, writer_legal, writer_of, writer_words}
use Rattle.words.proofs.States.{words_stand}
use Rattle.capi.specs.Calls.{single, WalkerCall, next_answer, next_walker, seek_answer, seek_walker, step_answer, step_walker, block_after_call}
use Rattle.capi.specs.Calls.{writer_after_call, buffer_after_call}
use Rattle.capi.specs.Lists.{answered, WalkerStep, reads, seeks, RegisterStep, steps, step, WriterStep, writes, starts_with, ThroughWords}
use Rattle.capi.proofs.Laws.{either}
use Rattle.capi.proofs.Answers.{read_told, seek-told, step-told, write-told}

-- ---- a walker that its words spell

abbrev Spelt : Option ℕ → Type 0
Spelt t = trailer_of (trailer_word t) ≡ t

module _ (file : List ℕ) (w : Walker) (s : Spelt w.trailer) where
  frame_spelt : (size : ℕ) → Spelt (read_frame file w size).walker.trailer
  unfolding read_frame
  frame_spelt size = either (λ (q : Reading). Spelt q.walker.trailer) (leb (w.position.cursor + 8 + size) (length file)) _ _ s s

  sound_spelt : (size : ℕ) → Spelt (read_sound file w size).walker.trailer
  unfolding read_sound
  sound_spelt size = either (λ (q : Reading). Spelt q.walker.trailer) (leb (w.position.cursor + 8 + size) (length file)) _ _ s s

  -- a cursor that may be read at is no largest word
  cursor_spelt : in_range w.position ≡ true → Spelt (Some w.position.cursor)
  cursor_spelt r =
      let f = range_facts w.position r in
      rw (ne_eqb w.position.cursor not_met (λ e. omega arith))

  head_spelt : in_range w.position ≡ true → (h : Head) → Spelt (read_head file w h).walker.trailer
  head_spelt r head.Short = s
  head_spelt r head.Trailer = cursor_spelt r
  head_spelt r head.Unknown = s
  head_spelt r (head.Video size) = frame_spelt size
  head_spelt r (head.Audio size) = sound_spelt size

  next_spelt : Spelt (next_walker file w).trailer
  unfolding read_of read_chunk
  next_spelt = go (within_limit file) (in_range w.position) w.end refl
    where
      go : (a b e : Bool) → in_range w.position ≡ b
          → Spelt
          (cond a (cond b (cond e (record { answer = End; walker = w }) (read_chunk file w)) (refuse 32 0 w)) (refuse 10 0 w)
          ).walker.trailer
      go false b e r = s
      go true false e r = s
      go true true true r = s
      go true true false r = head_spelt r (head_at file w.position.cursor)

-- the words of a walker that they spell
abbrev Stands : List ℕ → Walker → Type 0
Stands ws w = (ws ≡ walker_words w) × Spelt w.trailer

spells : (ws : List ℕ) (w : Walker) → Stands ws w → walker_of ws ≡ accepted w
spells ws w i = ap walker_of i.0 ∙ words_stand.walker_back w i.1

-- what a call over them says and leaves
module _ {n : ℕ} (answer : Walker → Answer (List ℕ)) (next : Walker → Walker) {ws : List ℕ} {number : ℕ} {out after : List ℕ} (w : Walker)
    (i : Stands ws w) (h : WalkerCall n answer next ws number out after) where
  walker-says : OutSays n (answer w) number out
  walker-says = subst (λ (d : Answer Walker). OutSays n (and_then d answer) number out) (spells ws w i) h.says

  walker-left : after ≡ walker_words (next w)
  walker-left = h.walker ∙ ap (λ d. unless_refused ws d (λ w. walker_words (next w))) (spells ws w i)

-- they spell the walker after a call too: a seek leaves the trailer, and a read puts it where it can be spelt
call_spelt : (file table : List ℕ) (w : Walker) → Spelt w.trailer → (c : Call) → Spelt (call file table w c).walker.trailer
unfolding call
call_spelt file table w s read = next_spelt file w s
call_spelt file table w s (seek stream request) = subst Spelt (sym (seek_sentences.trailer_stays table w stream request)) s

-- and after a step, of whatever block: one that is refused or has no command leaves the walker
step_spelt : (file table : List ℕ) (w : Walker) → Spelt w.trailer → (block : List ℕ) → Spelt (step_of file table w block).walker.trailer
unfolding step_of
step_spelt file table w s block = go (command_in block)
  where
    go : (a : Answer (Option Call)) → Spelt (stepped_from file table w block a).walker.trailer
    go (refused r) = s
    go (accepted None) = s
    go (accepted (Some c)) = call_spelt file table w s c

calling : (file table : List ℕ) → Calling Stands (WalkerStep file table) file table
unfolding call
calling file table s c answer next w i (reads number out h) = (
  ap read_answer (read_told file w (walker-says (next_answer file) (next_walker file) w i h)),
  (walker-left (next_answer file) (next_walker file) w i h, call_spelt file table w i.1 read),
)
calling file table s (seek stream request) answer next w i (seeks number out h) = (
  ap machine.seek_answer (seek-told _ (walker-says (seek_answer table stream request) (seek_walker table stream request) w i h)),
  (
    walker-left (seek_answer table stream request) (seek_walker table stream request) w i h,
    call_spelt file table w i.1 (seek stream request),
  ),
)

-- a step
stepping : (file table : List ℕ) → SteppingAs Stands (RegisterStep file table) file table
stepping file table s block answer next w i (steps number out h) = (
  (λ j.
      record {
        answer = step-told file w table block (walker-says (step_answer file table block) (step_walker file table block) w i h.call) j;
        block = (h.block ∙ ap (λ d. unless_refused block d (λ w. (step_of file table w block).block)) (spells s w i)) j;
      }),
  (walker-left (step_answer file table block) (step_walker file table block) w i h.call, step_spelt file table w i.1 block),
)

-- ---- a writer whose settings are in their fields' ranges

abbrev Legal : Writer → Type 0
Legal w = settings_legal (writer_words w) ≡ true

outcome_legal : (q : Answer Unit) (w next : Writer) (buf after : List ℕ) → Legal w → Legal next → Legal (outcome q w buf next after).writer
outcome_legal (accepted u) w next buf after h n = n
outcome_legal (refused r) w next buf after h n = h

write_legal : (w : Writer) (buf : List ℕ) (c : WriteCall) → Legal w → Legal (write_step w buf c).writer
unfolding settings_legal write_step header_call packet_call trailer_call
write_legal w buf header h = outcome_legal (header_questions w (length buf)) w _ buf _ h h
write_legal w buf (packet payload stream) h = outcome_legal (packet_questions w (length payload) stream (length buf)) w _ buf _ h h
write_legal w buf trailer h = outcome_legal (trailer_questions w (length buf)) w _ buf _ h h

-- the words of a writer that they spell
abbrev StandsFor : List ℕ → Writer → Type 0
StandsFor ws w = (ws ≡ writer_words w) × Legal w

writing : Writing StandsFor WriterStep
writing s c answer next w i (writes number out h) =
    let e : writer_of s.state ≡ accepted w = ap writer_of i.0 ∙ words_stand.writer_back w i.1 in (
      write-told _ (subst (λ (d : Answer Writer). OutSays 1 (and_then d (λ w. checked (step s.buffer c w).answer)) number out) e h.says),
      (
        (
          h.writer ∙ ap (λ d. unless_refused s.state d (λ w. writer_words (step s.buffer c w).writer)) e,
          write_legal w s.buffer c i.1,
        ),
        h.buffer ∙ ap (λ d. unless_refused s.buffer d (λ w. (step s.buffer c w).buffer)) e,
      ),
    )

-- legal settings are held by their fields
legal_held : (s : Settings) → Legal (muxer.fresh s) → Held s
unfolding settings_legal
legal_held s l =
    let a = both _ _ l in
    let b = both _ _ a.0 in
    let c = both _ _ b.0 in
    let d = both _ _ c.0 in
    let f = leb-true s.width u32_max d.0 in
    let g = leb-true s.height u32_max d.1 in
    let h = leb-true s.fps u32_max c.1 in
    let k = leb-true s.rate u32_max b.1 in
    record { width_held = omega arith; height_held = omega arith; fps_held = omega arith; rate_held = omega arith }

-- of others no call is accepted
none-accepted : {s last : Lent (List ℕ)} {calls : List WriteCall} {said : List (Answer Unit)} → settings_legal s.state ≡ false
    → CallsRan WriterStep s calls said last → accepted_by calls said ≡ []
unfolding accepted_by writer_legal
none-accepted l no_call = refl
none-accepted {s} l (one_more (writes {c = c} number out h) rest) =
    let e : writer_of s.state ≡ refused (numbered 1 0) = rw l in
    let a : answered number out tt ≡ refused (numbered 1 0) =
    write-told (refused (numbered 1 0))
    (subst (λ (d : Answer Writer). OutSays 1 (and_then d (λ w. checked (step s.buffer c w).answer)) number out) e h.says) in
    let k = h.writer ∙ ap (λ d. unless_refused s.state d (λ w. writer_words (step s.buffer c w).writer)) e in
    rw a (none-accepted (ap settings_legal k ∙ l) rest)

nothing_written : (s : Settings) (file : List ℕ) (said : List WriteCall) → said ≡ [] → WritesAgreed s file said
nothing_written s file said e =
    record {
      finish = λ k. absurd (Memᴰ.not-nil (subst (λ (l : List WriteCall). Memᴰ header l) e k.begun));
      apart = λ k. absurd (Memᴰ.not-nil (subst (λ (l : List WriteCall). Memᴰ header l) e k.begun));
    }

written : (s : Settings) (buf : List ℕ) (calls : List WriteCall) (said : List (Answer Unit)) (last : Lent (List ℕ))
    → CallsRan WriterStep (starts_with s buf) calls said last
    → WritesAgreed s (take (word last.state 7) last.buffer) (accepted_by calls said)
written s buf calls said last ran = go _ refl
  where
    go : (b : Bool) → settings_legal (writer_words (muxer.fresh s)) ≡ b
        → WritesAgreed s (take (word last.state 7) last.buffer) (accepted_by calls said)
    go false l = nothing_written s _ _ (none-accepted l ran)
    go true l =
        let a = every_list.writes StandsFor WriterStep writing s (legal_held s l) _ calls said last (refl, l) ran in
        rw a.1.0.0 a.1.1

-- ---- every call has an answer

said_of : (n : ℕ) (a : Answer (List ℕ)) → Numbered a → OutSays n a (number_of a) (out_of n a)
said_of n (accepted x) k = record { number = refl; words = refl; zero = λ _. tt }
said_of n (refused r) k = record { number = refl; words = refl; zero = k }

walker-numbered : (ws : List ℕ) → Numbered (walker_of ws)
walker-numbered ws = ask-numbered (walker_legal ws) 1 0 _ (omega arith) tt

writer-numbered : (ws : List ℕ) → Numbered (writer_of ws)
writer-numbered ws = ask-numbered (writer_legal ws) 1 0 _ (omega arith) tt

read-words-numbered : (w : Walker) (a : ReadAnswer) → ReadNumbered a → Numbered (read_words w a)
read-words-numbered w (demuxer.packet p) k = tt
read-words-numbered w End k = tt
read-words-numbered w (demuxer.refused r) k = k

walker-runs : (file table ws : List ℕ) (c : Call) → (answer : CallAnswer) × (next : List ℕ) × WalkerStep file table ws c answer next
walker-runs file table ws read = (
  _,
  _,
  reads _ _
      (record {
        says =
            said_of 7 _
            (then-numbered (walker_of ws) (next_answer file) (walker-numbered ws)
            (λ w. read-words-numbered w (read_of file w).answer (read-numbered file w)));
        walker = refl;
      }),
)
walker-runs file table ws (seek stream request) = (
  _,
  _,
  seeks _ _
      (record {
        says =
            said_of 2 _
            (then-numbered (walker_of ws) (seek_answer table stream request) (walker-numbered ws)
            (λ w.
            then-numbered (seek_of table w stream request).answer (λ x. accepted (single x)) (seek-numbered table w stream request)
            (λ _. tt)));
        walker = refl;
      }),
)

-- 74 and 75 are no 0
step-answered : (file table : List ℕ) (w : Walker) (block : List ℕ) → Numbered (step_of file table w block).answer
unfolding step_of command_in
step-answered file table w block =
    go (command_in block) (ask-numbered (eqb (length block) 16) 74 0 _ (omega arith) (ask-numbered (leb (byte block 0) 3) 75 0 _ (omega arith) tt))
  where
    go : (d : Answer (Option Call)) → Numbered d → Numbered (stepped_from file table w block d).answer
    go (accepted c) n = tt
    go (refused r) n = n

step-runs : (file table ws block : List ℕ) → (answer : StepAnswer) × (next : List ℕ) × RegisterStep file table ws block answer next
step-runs file table ws block = (
  _,
  _,
  steps {after = block_after_call file table ws block} _ _
      (record {
        call =
            record {
              says =
                  said_of 7 _
                  (then-numbered (walker_of ws) (step_answer file table block) (walker-numbered ws)
                  (λ w.
                  then-numbered (step_of file table w block).answer (λ p. accepted (shown_words w p)) (step-answered file table w block)
                  (λ _. tt)));
              walker = refl;
            };
        block = refl;
      }),
)

writer-runs : (s : Lent (List ℕ)) (c : WriteCall) → (answer : Answer Unit) × (next : Lent (List ℕ)) × WriterStep s c answer next
writer-runs s c = (
  _,
  record { state = writer_after_call (step s.buffer c) s.state; buffer = buffer_after_call (step s.buffer c) s.state s.buffer },
  writes _ _
      (record {
        says =
            said_of 1 _
            (then-numbered (writer_of s.state) (λ w. checked (step s.buffer c w).answer) (writer-numbered s.state)
            (λ w. then-numbered (step s.buffer c w).answer (λ _. accepted []) (step-numbered w s.buffer c) (λ _. tt)));
        writer = refl;
        buffer = refl;
      }),
)

pub through_words : ThroughWords
through_words =
    record {
      fresh_walker = refl;
      fresh_writer = λ s. refl;
      same_calls = λ file table calls said last ran.
          let a = every_list.same_calls Stands (WalkerStep file table) file table (calling file table) _ calls said last (refl, refl) ran in
          (a.0, spells last _ a.1);
      reads_and_seeks = λ file cs all fin table own calls said last ran.
          let a =
          every_list.reads_and_seeks Stands (WalkerStep file table) file cs all fin table own (calling file table) _ calls said last
          (refl, refl) ran in
          (a.0, (spells last a.0 a.1.0, a.1.1));
      indexed = λ file all table own calls said last ran.
          let a =
          every_list.indexed Stands (WalkerStep file table) file all table own (calling file table) _ calls said last (refl, refl) ran in
          (a.0, (spells last a.0 a.1.0, a.1.1));
      cut = λ file cs all fin n short table said last ran.
          let a =
          every_list.cut Stands (WalkerStep (take n file) table) file cs all fin n short table (calling (take n file) table) _ (refl, refl) said last
          ran in
          (a.0, spells last _ a.1);
      register_steps = λ file cs all fin table own blocks said last ran.
          let a =
          every_step.finished Stands (RegisterStep file table) file cs all fin table own (stepping file table) _ blocks said last
          (refl, refl) ran in
          (a.0, (spells last a.0 a.1.0, a.1.1));
      indexed_steps = λ file all table own blocks said last ran.
          let a =
          every_step.indexed Stands (RegisterStep file table) file all table own (stepping file table) _ blocks said last (refl, refl) ran in
          (a.0, (spells last a.0 a.1.0, a.1.1));
      writing = written;
      walkers_run = λ file table ws calls. every_list.runs (WalkerStep file table) (walker-runs file table) ws calls;
      steps_run = λ file table ws blocks. every_list.runs (RegisterStep file table) (step-runs file table) ws blocks;
      writers_run = λ s calls. every_list.runs WriterStep writer-runs s calls;
    }
