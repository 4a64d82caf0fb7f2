-- Every list of register steps agrees with the machine of the file that is fed its commands: a command is one of four (`command_cases`), and what a
-- read or a seek shows of the machine's answer is by the one-step lemma of the claim about reads and seeks (`own_turn`). Assumes nothing.
use mathlib.Core.Path.{◌≡◌, refl, sym, ap, subst, ◌∙◌}
use Rattle.error.specs.Refusal.{said}
use Rattle.std.proofs.Common.{Option, Some, None}
use mathlib.Core.Option as maybe
use Prim.Native.Nat.{ℕ, ◌≤◌}
use mathlib.Core.Bool.{Bool, true, false, cond}
use mathlib.Core.List.{List, [], ◌∷◌, append-nil}
use native.Mathlib.Omega.{arith}
use lib.Dec.{leb, eqb}
use lib.IntN.{ℤ}
use lib.ListN.{length, get_elem?}
use Rattle.error.specs.Answer.{Answer, accepted, refused, ask}
use Rattle.error.specs.declared.Refusal.{Refusal}
use Rattle.fields.specs.Le.{le, le_bytes, Bytes}
use Rattle.fields.proofs.Laws.{le-append-right, le-le_bytes}
use Rattle.demuxer.specs.Packet.{Shown}
use Rattle.demuxer.specs.Position.{count_limit}
use Rattle.demuxer.specs.Read.{ReadAnswer, packet, End, fresh}
use Rattle.demuxer.specs.declared.walker.Walker.{Walker}
use Rattle.walk.specs.Chunks.{Chunk, walk_of}
use Rattle.walk.specs.Walk.{Walk, file_walk}
use Rattle.recording.specs.Drain.{drain}
use Rattle.recording.specs.Grammar.{Finished}
use Rattle.recording.specs.Lists.{CallsRan, no_call, one_more}
use Rattle.recording.specs.Machine.{Call, read, seek, MachineAnswer, gives, ends, goes, goes_to_end, refuses, MachineStep, on_read, on_seek, first, machine_step}
use Rattle.recording.specs.Machine.{CallAnswer, read_answer, seek_answer, CallOutcome, call, OwnIndex}
use Rattle.recording.specs.Machine as machine
use Rattle.recording.specs.Indexed.{wholes_of, recorded_of, file_step, file_says, file_after, Marks, unmarked, marked_by, marks_after}
use Rattle.recording.proofs.Indexed.{Invariant, Turn, begins, marked, own_turn, own_range, own-leaves}
use Rattle.recording.proofs.Lists.{plain_step, left-finished}
use Rattle.recording.proofs.Tables.{finished-walk}
use Rattle.registers.specs.Registers.{byte, request_in, commanded, command_in, done_of, packet_of, refusal_number, status_of, front_after}
use Rattle.registers.specs.Registers.{request_after, block_after, Performed, Stepping, stepped, stepped_from, step_of}
use Rattle.registers.specs.Lists.{unless_refused, fed, also, fed_by, machine_said, machine_place, StepAnswer, shown_by, Accepts, Agrees, AllAgree}
use Rattle.registers.specs.Lists.{StepsAgreed, StepsAlong, shown, after, RegisterSteps, IndexedSteps, SteppingAs, EveryStep}
use Rattle.registers.proofs.Stamps.{packet-stamp, seek-stamp, stamp_in}
use Rattle.registers.proofs.Sentences.{bits_of}

-- ---- a command is refused, or it is one of four

command_cases : (P : Answer (Option Call) → Type 0) → ((r : Refusal) → P (refused r)) → P (accepted None) → P (accepted (Some read))
    → ((z : ℤ) → P (accepted (Some (seek 0 z)))) → ((z : ℤ) → P (accepted (Some (seek 1 z)))) → (block : List ℕ) → P (command_in block)
unfolding command_in commanded
command_cases P refusal idle reads pictures sounds block =
    asked (eqb (length block) 16) (leb (byte block 0) 3) (one (eqb (byte block 0) 1) (eqb (byte block 0) 2) (eqb (byte block 0) 3))
  where
    one : (a b c : Bool)
        → P (accepted (cond a (Some read) (cond b (Some (seek 0 (request_in block))) (cond c (Some (seek 1 (request_in block))) None))))
    one true b c = reads
    one false true c = pictures (request_in block)
    one false false true = sounds (request_in block)
    one false false false = idle

    asked : (a b : Bool) {c : Option Call} → P (accepted c) → P (ask a 74 0 (ask b 75 0 (accepted c)))
    asked true true p = p
    asked true false p = refusal _
    asked false b p = refusal _

-- ---- what a step shows of an answer of the machine

-- what the marks and the stamp must be beside the answer
Marked : MachineAnswer → CallOutcome → Type 0
Marked (gives p) o = p.stamp ≤ count_limit
Marked ends o = o.walker.end ≡ true
Marked (goes stamp) o = (stamp ≤ count_limit) × (o.walker.end ≡ false)
Marked goes_to_end o = Unit
Marked refuses o = ⊥

-- a call that was made
abbrev made : CallOutcome → Performed
made o = record { done = done_of o.answer; walker = o.walker }

module _ (block : List ℕ) where
  -- a stamp that 64 bits hold is read back from bytes 8 to 15
  stamp_back : (p : Performed) (stamp : ℕ) → stamp ≤ count_limit → request_after block p.done ≡ le_bytes 8 stamp → le 8 (block_after block p) 8 ≡ stamp
  unfolding block_after
  stamp_back p stamp h e =
      le-append-right 8 (front_after block (status_of p) (refusal_number p.done)) (request_after block p.done) 0
      ∙ ap (λ (l : List ℕ). le 8 l 0) (e ∙ sym (append-nil (le_bytes 8 stamp)))
      ∙ le-le_bytes 8 stamp [] (omega arith)

  accepts : (o : CallOutcome) (a : CallAnswer) → o.answer ≡ a → refusal_number (done_of a) ≡ 0
      → Accepts (shown_by (stepped block (made o))) (packet_of (done_of a))
  unfolding block_after
  accepts o a e n =
      record {
        answered = ap (λ (a : CallAnswer). accepted (packet_of (done_of a))) e;
        unrefused = ap (λ (a : CallAnswer). refusal_number (done_of a)) e ∙ n;
      }

  agreed : (m : MachineAnswer) (o : CallOutcome) → machine.Agrees m o.answer → Marked m o → Agrees (Some m) (shown_by (stepped block (made o)))
  unfolding Marked block_after
  agreed (gives p) o e h = (
    accepts o (read_answer (packet p)) e refl,
    stamp_back (made o) p.stamp h (ap (λ (a : CallAnswer). request_after block (done_of a)) e),
  )
  agreed ends o e h = (accepts o (read_answer End) e refl, (bits_of (made o)).end_bit ∙ h)
  agreed (goes stamp) o e h = (
    accepts o (seek_answer (accepted stamp)) e refl,
    stamp_back (made o) stamp h.0 (ap (λ (a : CallAnswer). request_after block (done_of a)) e),
    (bits_of (made o)).end_bit ∙ h.1,
  )
  agreed goes_to_end o e h = accepts o (seek_answer (accepted e.0)) e.1 refl
  agreed refuses o e h = absurd h

read_same : {a b : ReadAnswer} → read_answer a ≡ read_answer b → a ≡ b
read_same e = cc

seek-same : {a b : Answer ℕ} → seek_answer a ≡ seek_answer b → a ≡ b
seek-same e = cc

module _ (file : List ℕ) (all : Bytes file) (table : List ℕ) (own : OwnIndex file table) where
  abbrev v : Walk
  v = file_walk file

  -- ---- one step

  read-marked : (w : Walker) (k : ℕ) (m : Marks) → Invariant v w k m → (x : maybe.Option Shown) → Turn v m (call file table w read) (on_read k x)
      → Marked (on_read k x).says (call file table w read)
  unfolding Marked call
  read-marked w k m i (maybe.some p) t = packet-stamp file w (own_range file all table own w k m i) (read_same t.agrees)
  read-marked w k m i maybe.none t = (marked t.keeps).end_is

  seek-marked : (w : Walker) (m : Marks) (stream : ℕ) (z : ℤ) (k : ℕ) (x : maybe.Option Shown) → Turn v m (call file table w (seek stream z)) (on_seek k x)
      → Marked (on_seek k x).says (call file table w (seek stream z))
  unfolding Marked call
  seek-marked w m stream z k (maybe.some p) t = (
    rw (seek-stamp table w stream z (seek-same t.agrees)) (stamp_in stream _ (own_range file all table own _ k _ t.keeps)),
    (marked t.keeps).end_is,
  )
  seek-marked w m stream z k maybe.none t = tt

  -- the marks after what the machine is fed
  abbrev marks_fed : ℕ → Marks → Option Call → Marks
  marks_fed k m None = m
  marks_fed k m (Some c) = marked_by m (file_step v k c).says

  -- what a step shows agrees, and the walker that it leaves keeps the invariant
  record Turned (k : ℕ) (m : Marks) (d : Answer (Option Call)) (s : Stepping) : Type 0 where
    agrees : Agrees (machine_said (file_step v) k (unless_refused d)) (shown_by s)
    keeps : Invariant v s.walker (machine_place (file_step v) k (unless_refused d)) (marks_fed k m (unless_refused d))

  -- of a call whose machine's step is known
  by_turn : (w : Walker) (k : ℕ) (m : Marks) (block : List ℕ) → Invariant v w k m → (c : Call) (n : MachineStep) → file_step v k c ≡ n
      → (Turn v m (call file table w c) n → Marked n.says (call file table w c))
      → Turned k m (accepted (Some c)) (stepped_from file table w block (accepted (Some c)))
  by_turn w k m block i c n e marks =
      let t = own_turn file all table own w k m c i in
      let u : Turn v m (call file table w c) n = subst (Turn v m (call file table w c)) e t in
      record {
        agrees =
            subst (λ (x : MachineStep). Agrees (Some x.says) (shown_by (stepped block (made (call file table w c))))) (sym e)
            (agreed block n.says (call file table w c) u.agrees (marks u));
        keeps = t.keeps;
      }

  read-turn : (w : Walker) (k : ℕ) (m : Marks) (block : List ℕ) → Invariant v w k m
      → Turned k m (accepted (Some read)) (stepped_from file table w block (accepted (Some read)))
  unfolding file_step machine_step
  read-turn w k m block i = by_turn w k m block i read _ refl (read-marked w k m i (get_elem? (drain (wholes_of v)) k))

  seek-turn : (w : Walker) (k : ℕ) (m : Marks) (block : List ℕ) → Invariant v w k m → (stream : ℕ) → leb stream 1 ≡ true → (z : ℤ)
      → Turned k m (accepted (Some (seek stream z))) (stepped_from file table w block (accepted (Some (seek stream z))))
  unfolding file_step machine_step
  seek-turn w k m block i stream h z =
      let to : ℕ = first stream z (drain (recorded_of v)) in
      by_turn w k m block i (seek stream z) (on_seek to (get_elem? (drain (recorded_of v)) to)) (rw h)
      (seek-marked w m stream z to (get_elem? (drain (recorded_of v)) to))

  step-turn : (w : Walker) (k : ℕ) (m : Marks) (block : List ℕ) → Invariant v w k m → Turned k m (command_in block) (step_of file table w block)
  unfolding step_of
  step-turn w k m block i =
      command_cases (λ (d : Answer (Option Call)). Turned k m d (stepped_from file table w block d)) (λ r. record { agrees = refl; keeps = i })
      (record { agrees = refl; keeps = i }) (read-turn w k m block i) (seek-turn w k m block i 0 refl) (seek-turn w k m block i 1 refl) block

  -- ---- a list of steps

  place_after : (k : ℕ) (c : Option Call) (calls : List Call) → file_after v k (also c calls) ≡ file_after v (machine_place (file_step v) k c) calls
  unfolding file_after
  place_after k None calls = refl
  place_after k (Some c) calls = refl

  marks-after : (k : ℕ) (m : Marks) (c : Option Call) (calls : List Call)
      → marks_after m (file_says v k (also c calls)) ≡ marks_after (marks_fed k m c) (file_says v (machine_place (file_step v) k c) calls)
  unfolding file_says marks_after
  marks-after k m None calls = refl
  marks-after k m (Some c) calls = refl

  pub record Run (w : Walker) (k : ℕ) (m : Marks) (blocks : List (List ℕ)) : Type 0 where
    pub agree : AllAgree (file_step v) k blocks (shown file table w blocks)
    pub holds : Invariant v (after file table w blocks) (file_after v k (fed_by blocks)) (marks_after m (file_says v k (fed_by blocks)))

  run : (w : Walker) (k : ℕ) (m : Marks) (blocks : List (List ℕ)) → Invariant v w k m → Run w k m blocks
  unfolding shown after fed_by
  run w k m [] i = record { agree = tt; holds = unfold file_after file_says marks_after in i }
  run w k m (block ∷ blocks) i =
      let t = step-turn w k m block i in
      let r = run (step_of file table w block).walker (machine_place (file_step v) k (fed block)) (marks_fed k m (fed block)) blocks t.keeps in
      record {
        agree = (t.agrees, r.agree);
        holds = rw (place_after k (fed block) (fed_by blocks), marks-after k m (fed block) (fed_by blocks)) r.holds;
      }

  pub whole : (blocks : List (List ℕ)) → StepsAlong file v blocks (after file table fresh blocks) (shown file table fresh blocks)
  whole blocks =
      let r = run fresh 0 unmarked blocks (begins v) in
      record { agree = r.agree; leaves = own-leaves file all table own (fed_by blocks) _ r.holds }

pub indexed_steps : IndexedSteps
indexed_steps file all table own blocks = whole file all table own blocks

-- ---- a finished recording

-- steps that are the same say the same
same-agree : (f g : ℕ → Call → MachineStep) → ((k : ℕ) (c : Call) → f k c ≡ g k c) → (k : ℕ) (blocks : List (List ℕ)) (said : List StepAnswer)
    → AllAgree f k blocks said → AllAgree g k blocks said
same-agree f g e k [] [] a = a
same-agree f g e k [] (s ∷ said) a = a
same-agree f g e k (block ∷ blocks) [] a = a
same-agree f g e k (block ∷ blocks) (s ∷ said) a = on (fed block) a.0 (same-agree f g e (machine_place f k (fed block)) blocks said a.1)
  where
    on : (c : Option Call) → Agrees (machine_said f k c) s → AllAgree g (machine_place f k c) blocks said
        → Agrees (machine_said g k c) s × AllAgree g (machine_place g k c) blocks said
    on None x y = (x, y)
    on (Some c) x y =
        (subst (λ (n : MachineStep). Agrees (Some n.says) s) (e k c) x, subst (λ (n : MachineStep). AllAgree g n.place blocks said) (e k c) y)

-- what is said of every file is, of this one, what is said by its chunks
pub steps-finished : (file : List ℕ) (cs : List Chunk) → Finished file cs → (blocks : List (List ℕ)) (w : Walker) (said : List StepAnswer)
    → StepsAlong file (file_walk file) blocks w said → StepsAgreed file cs blocks w said
steps-finished file cs fin blocks w said a =
    let b : StepsAlong file (walk_of cs 0) blocks w said = subst (λ (v : Walk). StepsAlong file v blocks w said) (finished-walk file cs fin) a in
    let l = left-finished file cs b.leaves in
    record {
      agree = same-agree (file_step (walk_of cs 0)) (machine_step (drain cs)) (plain_step cs 0) 0 blocks said b.agree;
      left = l.0;
      stands = l.1;
    }

pub register_steps : RegisterSteps
register_steps file cs all fin table own blocks = steps-finished file cs fin blocks _ _ (indexed_steps file all table own blocks)

-- ---- over any state

module _ {S : Type 0} (Stands : S → Walker → Type 0) (Step : S → List ℕ → StepAnswer → S → Type 0) (file table : List ℕ)
    (stepping : SteppingAs Stands Step file table) where
  follows : {s last : S} {blocks : List (List ℕ)} {said : List StepAnswer} (w : Walker) → Stands s w → CallsRan Step s blocks said last
      → (said ≡ shown file table w blocks) × Stands last (after file table w blocks)
  unfolding shown after
  follows w i no_call = (refl, i)
  follows w i (one_more {c = block} step rest) =
      let t = stepping _ _ _ _ w i step in
      let r = follows (step_of file table w block).walker t.1 rest in
      ((λ j. t.0 j ∷ r.0 j), r.1)

pub every_step : EveryStep
every_step =
    record {
      finished = λ Stands Step file cs all fin table own stepping s blocks said last i ran.
          let f = follows Stands Step file table stepping _ i ran in
          (_, (f.1, rw f.0 (register_steps file cs all fin table own blocks)));
      indexed = λ Stands Step file all table own stepping s blocks said last i ran.
          let f = follows Stands Step file table stepping _ i ran in
          (_, (f.1, rw f.0 (indexed_steps file all table own blocks)));
    }
