-- Lists of calls over any state that stands for 01's, and the claims about them: demand 3, 02's M-107, and reads and seeks on every file that has an
-- index, as the callers of functions that keep their state in words or behind a reference have it. Assumes nothing.
use Rattle.std.specs.Prelude.{◌≡◌, ℕ, ◌<◌, true, List, [], ◌∷◌, length, take}
use Rattle.error.specs.Refusal.{said}
use Rattle.std.specs.Prelude.{None}
use Rattle.error.specs.Answer.{Answer}
use Rattle.fields.specs.Le.{Bytes}
use Rattle.demuxer.specs.Packet.{Shown}
use Rattle.demuxer.specs.Read.{packet, End}
use Rattle.demuxer.specs.Read as demuxer
use Rattle.demuxer.specs.declared.walker.Walker.{Walker}
use Rattle.muxer.specs.Writer as muxer
use Rattle.muxer.specs.declared.Settings.{Settings}
use Rattle.muxer.specs.declared.Writer.{Writer}
use Rattle.walk.specs.Chunks.{Chunk}
use Rattle.recording.specs.Grammar.{Finished}
use Rattle.recording.specs.Machine.{Call, read, CallAnswer, read_answer, call, answers, after, Agreed, OwnIndex}
use Rattle.recording.specs.Indexed.{FileAgreed}
use Rattle.recording.specs.Cut.{survivors, ended_at}
use Rattle.recording.specs.WriteLists.{WriteCall, write_step, kept, Held, WritesAgreed}

-- "each call gets the walker that the last one returned": calls, what each answered, and the state that the last one left; a step says
-- what one call may answer and leave
pub data CallsRan {S C A : Type 0} (Step : S → C → A → S → Type 0) : S → List C → List A → S → Type 0 where
  no_call : {s : S} → CallsRan Step s [] [] s
  one_more : {s next last : S} {c : C} {answer : A} {calls : List C} {said : List A}
      → Step s c answer next → CallsRan Step next calls said last → CallsRan Step s (c ∷ calls) (answer ∷ said) last

-- a step is 01's call: on a state that stands for a walker it answers what the call does, and leaves a state that stands for its walker
abbrev pub Calling : {S : Type 0} → (S → Walker → Type 0) → (S → Call → CallAnswer → S → Type 0) → List ℕ → List ℕ → Type 0
Calling {S} Stands Step file table =
    (s : S) (c : Call) (answer : CallAnswer) (next : S) (w : Walker) → Stands s w → Step s c answer next
    → (answer ≡ (call file table w c).answer) × Stands next (call file table w c).walker

-- a writing state, and the buffer that is lent beside it
pub record Lent (S : Type 0) : Type 0 where
  pub state : S
  pub buffer : List ℕ

-- the same of a writing call
abbrev pub Writing : {S : Type 0} → (S → Writer → Type 0) → (Lent S → WriteCall → Answer Unit → Lent S → Type 0) → Type 0
Writing {S} Stands Step =
    (s : Lent S) (c : WriteCall) (answer : Answer Unit) (next : Lent S) (w : Writer) → Stands s.state w → Step s c answer next
    → let o = write_step w s.buffer c in
    (answer ≡ o.answer) × (Stands next.state o.writer × (next.buffer ≡ o.buffer))

-- the calls that were accepted, by their answers
unfoldable pub accepted_by : List WriteCall → List (Answer Unit) → List WriteCall
accepted_by [] said = []
accepted_by (c ∷ calls) [] = []
accepted_by (c ∷ calls) (answer ∷ said) = kept answer c (accepted_by calls said)

-- a read for each packet and one more, and what they answer where they give these packets and End
unfoldable pub reads_for : List Shown → List Call
reads_for [] = read ∷ []
reads_for (p ∷ ps) = read ∷ reads_for ps

unfoldable pub reads_say : List Shown → List CallAnswer
reads_say [] = read_answer End ∷ []
reads_say (p ∷ ps) = read_answer (packet p) ∷ reads_say ps

-- 02, M-107, of reads from a first state on: they give the packets that survive a cut to n bytes, then End, and the state that they leave stands
-- for the walker that has ended at the first chunk that is lost, with cut set and no trailer met
abbrev pub DrainsCut : {S : Type 0} → (S → Walker → Type 0) → (S → Call → CallAnswer → S → Type 0) → S → List Chunk → ℕ → Type 0
DrainsCut {S} Is Step first cs n =
    (said : List CallAnswer) (last : S) → CallsRan Step first (reads_for (survivors n cs)) said last
    → (said ≡ reads_say (survivors n cs)) × Is last (ended_at cs (length (survivors n cs)) true None)

-- of what the calls answered and left, over any state
pub record EveryList : Type 1 where
  -- they answer what 01's calls do, on every file and with every table, and leave a state that stands for their walker: what is claimed of these lists
  -- holds of those
  pub same_calls : {S : Type 0} (Stands : S → Walker → Type 0) (Step : S → Call → CallAnswer → S → Type 0) (file table : List ℕ)
      → Calling Stands Step file table
      → (s : S) (calls : List Call) (said : List CallAnswer) (last : S) → Stands s demuxer.fresh → CallsRan Step s calls said last
      → (said ≡ answers file table demuxer.fresh calls) × Stands last (after file table demuxer.fresh calls)
  -- demand 3
  pub reads_and_seeks : {S : Type 0} (Stands : S → Walker → Type 0) (Step : S → Call → CallAnswer → S → Type 0)
      → (file : List ℕ) (cs : List Chunk) → Bytes file → Finished file cs → (table : List ℕ) → OwnIndex file table
      → Calling Stands Step file table
      → (s : S) (calls : List Call) (said : List CallAnswer) (last : S) → Stands s demuxer.fresh → CallsRan Step s calls said last
      → (w : Walker) × (Stands last w × Agreed file cs calls w said)
  -- every file whose index is accepted
  pub indexed : {S : Type 0} (Stands : S → Walker → Type 0) (Step : S → Call → CallAnswer → S → Type 0)
      → (file : List ℕ) → Bytes file → (table : List ℕ) → OwnIndex file table
      → Calling Stands Step file table
      → (s : S) (calls : List Call) (said : List CallAnswer) (last : S) → Stands s demuxer.fresh → CallsRan Step s calls said last
      → (w : Walker) × (Stands last w × FileAgreed file calls w said)
  pub cut : {S : Type 0} (Stands : S → Walker → Type 0) (Step : S → Call → CallAnswer → S → Type 0)
      → (file : List ℕ) (cs : List Chunk) → Bytes file → Finished file cs → (n : ℕ) → n < length file → (table : List ℕ)
      → Calling Stands Step (take n file) table → (s : S) → Stands s demuxer.fresh → DrainsCut Stands Step s cs n
  pub writes : {S : Type 0} (Stands : S → Writer → Type 0) (Step : Lent S → WriteCall → Answer Unit → Lent S → Type 0) → Writing Stands Step
      → (settings : Settings) → Held settings
      → (s : Lent S) (calls : List WriteCall) (said : List (Answer Unit)) (last : Lent S) → Stands s.state (muxer.fresh settings)
      → CallsRan Step s calls said last
      → (w : Writer) × (Stands last.state w × WritesAgreed settings (take w.written last.buffer) (accepted_by calls said))
  -- where each call has an answer, each list runs
  pub runs : {S C A : Type 0} (Step : S → C → A → S → Type 0) → ((s : S) (c : C) → (answer : A) × (next : S) × Step s c answer next)
      → (s : S) (calls : List C) → (said : List A) × (last : S) × CallsRan Step s calls said last
