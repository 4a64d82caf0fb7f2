-- Lists of calls through words, each of which gets the words that the last one left, and demand 3 of what they return and write.
-- Assumes nothing.
use Rattle.std.specs.Prelude.{◌≡◌, ℕ, ◌<◌, cond, List, [], ◌∷◌, eqb, ℤ, length, take}
use Rattle.std.specs.Prelude.{Option}
use Rattle.error.specs.Answer.{Answer, accepted, numbered, ask}
use Rattle.fields.specs.Le.{Bytes}
use Rattle.demuxer.specs.Packet.{Shown, packet_duration, shown_of}
use Rattle.demuxer.specs.Read.{ReadAnswer, packet, End}
use Rattle.demuxer.specs.Read as demuxer
use Rattle.demuxer.specs.Sentences.{as_answer}
use Rattle.demuxer.specs.declared.packet.Packet.{Packet}
use Rattle.demuxer.specs.declared.walker.Walker.{Walker}
use Rattle.walk.specs.Chunks.{Chunk}
use Rattle.walk.specs.Walk.{file_walk}
use Rattle.muxer.specs.Writer.{WriteOutcome}
use Rattle.muxer.specs.Writer as muxer
use Rattle.muxer.specs.declared.Writer.{Writer}
use Rattle.muxer.specs.declared.Settings.{Settings}
use Rattle.recording.specs.Grammar.{Finished}
use Rattle.recording.specs.Machine.{Call, read, seek, CallAnswer, read_answer, Agreed, OwnIndex}
use Rattle.recording.specs.Machine as machine
use Rattle.recording.specs.Indexed.{FileAgreed}
use Rattle.recording.specs.WriteLists.{WriteCall, write_step, WritesAgreed}
use Rattle.recording.specs.Lists.{CallsRan, DrainsCut, Lent, accepted_by}
use Rattle.registers.specs.Lists.{StepAnswer, StepsAgreed, StepsAlong}
use Rattle.words.specs.State.{word, walker_of, walker_words, writer_words}
use Rattle.capi.specs.Calls.{WalkerCall, next_answer, next_walker, seek_answer, seek_walker, StepCall, WriterCall}

-- ---- what a call says to a caller, in the terms of include/amv.h

-- "0: accepted. Any other number: the call is refused"; "out[0] is the place of a refusal"
abbrev pub answered : {A : Type 0} → ℕ → List ℕ → A → Answer A
answered number out value = ask (eqb number 0) number (word out 0) (accepted value)

-- "place, 1 for a packet or 0 for End, stream .., offset and length of the payload in the file, stamp, duration (0: none)"
abbrev pub packet_in : List ℕ → Packet
packet_in out = record { stream = word out 2; start = word out 3; len = word out 4; stamp = word out 5; duration = packet_duration (word out 6) }

unfoldable pub read_in : List ℕ → ℕ → List ℕ → ReadAnswer
read_in file number out =
    cond (eqb number 0)
    (cond (eqb (word out 1) 0) End (packet (shown_of file (packet_in out))))
    (demuxer.refused (numbered number (word out 0)))

-- of a step: "as amv_next_packet's where this step's read gave a packet, else all 0"
abbrev pub step_in : List ℕ → ℕ → List ℕ → Answer (Option Shown)
step_in file number out = as_answer (read_in file number out)

-- ---- one call: what its function's contract says that it returns and leaves, and what that says

pub data WalkerStep (file table : List ℕ) : List ℕ → Call → CallAnswer → List ℕ → Type 0 where
  reads : {ws next : List ℕ} (number : ℕ) (out : List ℕ) → WalkerCall 7 (next_answer file) (next_walker file) ws number out next
      → WalkerStep file table ws read (read_answer (read_in file number out)) next
  -- "place, the stream's stamp where the walker stands"
  seeks : {ws next : List ℕ} {stream : ℕ} {request : ℤ} (number : ℕ) (out : List ℕ)
      → WalkerCall 2 (seek_answer table stream request) (seek_walker table stream request) ws number out next
      → WalkerStep file table ws (seek stream request) (machine.seek_answer (answered number out (word out 1))) next

-- a step of a register block: what it returns says, and the block as it leaves it
pub data RegisterStep (file table : List ℕ) : List ℕ → List ℕ → StepAnswer → List ℕ → Type 0 where
  steps : {ws next before after : List ℕ} (number : ℕ) (out : List ℕ) → StepCall file table ws before number out next after
      → RegisterStep file table ws before (record { answer = step_in file number out; block = after }) next

-- a writing call on the buffer as it is
abbrev pub step : List ℕ → WriteCall → Writer → WriteOutcome
step buf c w = write_step w buf c

pub data WriterStep : Lent (List ℕ) → WriteCall → Answer Unit → Lent (List ℕ) → Type 0 where
  writes : {s next : Lent (List ℕ)} {c : WriteCall} (number : ℕ) (out : List ℕ)
      → WriterCall (step s.buffer c) s.state s.buffer number out next.state next.buffer
      → WriterStep s c (answered number out tt) next

-- ---- lists of them

-- the words that a writer starts with, and the buffer beside them
abbrev pub starts_with : Settings → List ℕ → Lent (List ℕ)
starts_with s buf = record { state = writer_words (muxer.fresh s); buffer = buf }

-- Of calls in C, of what the numbers and the words of a list of calls say, from the words of fresh states: that they are 01's, demand 3, and every
-- file whose index is accepted
pub record ThroughWords : Type 0 where
  -- the words of fresh states, as a caller in C writes them
  pub fresh_walker : walker_words demuxer.fresh ≡ 316 ∷ 0 ∷ 0 ∷ 0 ∷ 0 ∷ 0 ∷ 18446744073709551615 ∷ []
  pub fresh_writer : (s : Settings)
      → writer_words (muxer.fresh s) ≡ s.width ∷ s.height ∷ s.fps ∷ s.rate ∷ s.channels ∷ 0 ∷ 0 ∷ 0 ∷ 0 ∷ []
  -- they are 01's calls, on every file and with every table: what is claimed of these holds of them. The last walker is the one that the last words
  -- spell
  pub same_calls : (file table : List ℕ) (calls : List Call) (said : List CallAnswer) (last : List ℕ)
      → CallsRan (WalkerStep file table) (walker_words demuxer.fresh) calls said last
      → (said ≡ machine.answers file table demuxer.fresh calls) × (walker_of last ≡ accepted (machine.after file table demuxer.fresh calls))
  -- of every file of bytes, as a lent one is
  pub reads_and_seeks : (file : List ℕ) (cs : List Chunk) → Bytes file → Finished file cs → (table : List ℕ) → OwnIndex file table
      → (calls : List Call) (said : List CallAnswer) (last : List ℕ)
      → CallsRan (WalkerStep file table) (walker_words demuxer.fresh) calls said last
      → (w : Walker) × ((walker_of last ≡ accepted w) × Agreed file cs calls w said)
  -- be it finished or not: of every file whose index is accepted
  pub indexed : (file : List ℕ) → Bytes file → (table : List ℕ) → OwnIndex file table
      → (calls : List Call) (said : List CallAnswer) (last : List ℕ)
      → CallsRan (WalkerStep file table) (walker_words demuxer.fresh) calls said last
      → (w : Walker) × ((walker_of last ≡ accepted w) × FileAgreed file calls w said)
  -- of reads of the first n bytes of a finished recording, fewer than it has (02, M-107)
  pub cut : (file : List ℕ) (cs : List Chunk) → Bytes file → Finished file cs → (n : ℕ) → n < length file → (table : List ℕ)
      → DrainsCut (λ (last : List ℕ) (w : Walker). walker_of last ≡ accepted w) (WalkerStep (take n file) table) (walker_words demuxer.fresh) cs n
  -- and of every list of steps, with any block at each of them
  pub register_steps : (file : List ℕ) (cs : List Chunk) → Bytes file → Finished file cs → (table : List ℕ) → OwnIndex file table
      → (blocks : List (List ℕ)) (said : List StepAnswer) (last : List ℕ)
      → CallsRan (RegisterStep file table) (walker_words demuxer.fresh) blocks said last
      → (w : Walker) × ((walker_of last ≡ accepted w) × StepsAgreed file cs blocks w said)
  pub indexed_steps : (file : List ℕ) → Bytes file → (table : List ℕ) → OwnIndex file table
      → (blocks : List (List ℕ)) (said : List StepAnswer) (last : List ℕ)
      → CallsRan (RegisterStep file table) (walker_words demuxer.fresh) blocks said last
      → (w : Walker) × ((walker_of last ≡ accepted w) × StepsAlong file (file_walk file) blocks w said)
  -- "The file is the first writer[7] bytes of the buffer." Of settings outside their fields' ranges no call is accepted.
  pub writing : (s : Settings) (buf : List ℕ) (calls : List WriteCall) (said : List (Answer Unit)) (last : Lent (List ℕ))
      → CallsRan WriterStep (starts_with s buf) calls said last
      → WritesAgreed s (take (word last.state 7) last.buffer) (accepted_by calls said)
  -- and every list of calls runs, from any words
  pub walkers_run : (file table ws : List ℕ) (calls : List Call)
      → (said : List CallAnswer) × (last : List ℕ) × CallsRan (WalkerStep file table) ws calls said last
  pub steps_run : (file table ws : List ℕ) (blocks : List (List ℕ))
      → (said : List StepAnswer) × (last : List ℕ) × CallsRan (RegisterStep file table) ws blocks said last
  pub writers_run : (s : Lent (List ℕ)) (calls : List WriteCall)
      → (said : List (Answer Unit)) × (last : Lent (List ℕ)) × CallsRan WriterStep s calls said last
