-- A list of calls over any state answers and leaves what 01's list of calls does, by one step after the other, so 01's claims hold of it.
-- Assumes nothing.
use mathlib.Core.Path.{◌≡◌, refl, ap, ◌∙◌, subst}
use mathlib.Core.List.{List, [], ◌∷◌}
use Prim.Native.Nat.{ℕ}
use lib.ListN.{take}
use Rattle.error.specs.Answer.{Answer}
use Rattle.demuxer.specs.Packet.{Shown}
use Rattle.demuxer.specs.Read.{Reading, packet}
use Rattle.demuxer.specs.declared.walker.Walker.{Walker}
use Rattle.muxer.specs.declared.Writer.{Writer}
use Rattle.recording.specs.Machine.{Call, CallAnswer, read_answer, call, answers, after}
use Rattle.recording.specs.Cut.{ReadsUntilEnd, ends, gives}
use Rattle.recording.specs.WriteLists.{WriteCall, write_step, kept, accepted_calls, writer_after, buffer_after}
use Rattle.recording.specs.Lists.{CallsRan, no_call, one_more, Calling, reads_for, reads_say, Lent, Writing, accepted_by, EveryList}
use Rattle.recording.proofs.Lists.{reads_and_seeks, indexed_files}
use Rattle.recording.proofs.Cuts.{cut_recordings}
use Rattle.recording.proofs.Writes.{writes}

module _ {S : Type 0} (Stands : S → Walker → Type 0) (Step : S → Call → CallAnswer → S → Type 0) (file table : List ℕ)
    (calling : Calling Stands Step file table) where
  follows : {s last : S} {calls : List Call} {said : List CallAnswer} (w : Walker) → Stands s w → CallsRan Step s calls said last
      → (said ≡ answers file table w calls) × Stands last (after file table w calls)
  unfolding answers after
  follows w i no_call = (refl, i)
  follows w i (one_more {c = c} step rest) =
      let t = calling _ _ _ _ w i step in
      let r = follows (call file table w c).walker t.1 rest in
      ((λ j. t.0 j ∷ r.0 j), r.1)

-- reads alone until End
until_end : {file : List ℕ} (table : List ℕ) {w last : Walker} {ps : List Shown} → ReadsUntilEnd file w ps last
    → (answers file table w (reads_for ps) ≡ reads_say ps) × (after file table w (reads_for ps) ≡ last)
unfolding answers after call reads_for reads_say
until_end table (ends r) = (ap (λ (x : Reading). read_answer x.answer ∷ []) r, ap (λ (x : Reading). x.walker) r)
until_end {file} table (gives {p = p} {ps = ps} r rest) =
    let later = until_end table rest in (
      ap (λ (x : Reading). read_answer x.answer ∷ answers file table x.walker (reads_for ps)) r
          ∙ ap (λ (said : List CallAnswer). read_answer (packet p) ∷ said) later.0,
      ap (λ (x : Reading). after file table x.walker (reads_for ps)) r ∙ later.1,
    )

module _ {S : Type 0} (Stands : S → Writer → Type 0) (Step : Lent S → WriteCall → Answer Unit → Lent S → Type 0)
    (writing : Writing Stands Step) where
  writes_follow : {s last : Lent S} {calls : List WriteCall} {said : List (Answer Unit)} (w : Writer) → Stands s.state w
      → CallsRan Step s calls said last
      → (accepted_by calls said ≡ accepted_calls w s.buffer calls)
      × (Stands last.state (writer_after w s.buffer calls) × (last.buffer ≡ buffer_after w s.buffer calls))
  unfolding accepted_by accepted_calls writer_after buffer_after
  writes_follow w i no_call = (refl, (i, refl))
  writes_follow {s} w i (one_more {c = c} step rest) =
      let t = writing _ _ _ _ w i step in
      let r = writes_follow (write_step w s.buffer c).writer t.1.0 rest in
      rw (← t.1.1) ((λ j. kept (t.0 j) c (r.0 j)), r.1)

every_run : {S C A : Type 0} (Step : S → C → A → S → Type 0) → ((s : S) (c : C) → (answer : A) × (next : S) × Step s c answer next)
    → (s : S) (calls : List C) → (said : List A) × (last : S) × CallsRan Step s calls said last
every_run Step step s [] = ([], s, no_call)
every_run Step step s (c ∷ calls) =
    let t = step s c in
    let r = every_run Step step t.1 calls in
    (t.0 ∷ r.0, r.1, one_more t.2 r.2)

pub every_list : EveryList
every_list =
    record {
      same_calls = λ Stands Step file table calling s calls said last i ran. follows Stands Step file table calling _ i ran;
      reads_and_seeks = λ Stands Step file cs all fin table own calling s calls said last i ran.
          let f = follows Stands Step file table calling _ i ran in
          (_, (f.1, rw f.0 (reads_and_seeks file cs all fin table own calls)));
      indexed = λ Stands Step file all table own calling s calls said last i ran.
          let f = follows Stands Step file table calling _ i ran in
          (_, (f.1, rw f.0 (indexed_files.lists file all table own calls)));
      cut = λ Stands Step file cs all fin n short table calling s i said last ran.
          let f = follows Stands Step (take n file) table calling _ i ran in
          let u = until_end table (cut_recordings.survives file cs all fin n short).drained in
          (f.0 ∙ u.0, subst (Stands last) u.1 f.1);
      writes = λ Stands Step writing settings held s calls said last i ran.
          let f = writes_follow Stands Step writing _ i ran in
          (_, (f.1.0, rw (f.0, f.1.1) (writes settings s.buffer calls held)));
      runs = every_run;
    }
