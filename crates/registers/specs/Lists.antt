-- Lists of register steps against the plain machine: 02's "for every list of steps from a fresh walker and anything the controller leaves in the
-- block between them". Assumes nothing.
use Rattle.std.specs.Prelude.{◌≡◌, ℕ, ◌<◌, true, false, List, [], ◌∷◌, length, drop}
use Rattle.error.specs.Refusal.{said}
use Rattle.std.specs.Prelude.{Option, Some, None}
use Rattle.error.specs.Answer.{Answer, accepted, refused}
use Rattle.fields.specs.Le.{le, Bytes}
use Rattle.demuxer.specs.Packet.{Shown}
use Rattle.demuxer.specs.Read.{fresh}
use Rattle.demuxer.specs.declared.walker.Walker.{Walker}
use Rattle.walk.specs.Chunks.{Chunk}
use Rattle.walk.specs.Walk.{Walk, file_walk}
use Rattle.recording.specs.Drain.{drain}
use Rattle.recording.specs.Grammar.{Finished}
use Rattle.recording.specs.Lists.{CallsRan}
use Rattle.recording.specs.Machine.{Call, MachineAnswer, gives, ends, goes, goes_to_end, refuses, MachineStep, machine_step, machine_after, PacketsLeft}
use Rattle.recording.specs.Machine.{AtChunk, OwnIndex}
use Rattle.recording.specs.Indexed.{file_step, LeftAlong}
use Rattle.registers.specs.Registers.{byte, command_in, Stepping, step_of}
use Rattle.registers.specs.Sentences.{bit}

-- ---- "the plain machine fed the same commands"

-- the call that a block feeds to the machine: none by the command 0, and none by a step that is refused
abbrev pub unless_refused : Answer (Option Call) → Option Call
unless_refused (accepted c) = c
unless_refused (refused r) = None

abbrev pub fed : List ℕ → Option Call
fed block = unless_refused (command_in block)

abbrev pub also : Option Call → List Call → List Call
also None calls = calls
also (Some c) calls = c ∷ calls

-- the calls of a list of blocks, each as the controller left it for its step
unfoldable pub fed_by : List (List ℕ) → List Call
fed_by [] = []
fed_by (block ∷ blocks) = also (fed block) (fed_by blocks)

-- what a machine of these steps says of what it is fed, and where it then stands
abbrev pub machine_said : (ℕ → Call → MachineStep) → ℕ → Option Call → Option MachineAnswer
machine_said step k None = None
machine_said step k (Some c) = Some (step k c).says

abbrev pub machine_place : (ℕ → Call → MachineStep) → ℕ → Option Call → ℕ
machine_place step k None = k
machine_place step k (Some c) = (step k c).place

-- ---- what a step shows

-- its answer, and the block that it leaves to the controller
pub record StepAnswer : Type 0 where
  pub answer : Answer (Option Shown)
  pub block : List ℕ

abbrev pub shown_by : Stepping → StepAnswer
shown_by s = record { answer = s.answer; block = s.block }

abbrev pub packet_in : Answer (Option Shown) → Option Shown
packet_in (accepted p) = p
packet_in (refused r) = None

-- an accepted step whose read or seek was not refused, with its packet
pub record Accepts (s : StepAnswer) (p : Option Shown) : Type 0 where
  pub answered : s.answer ≡ accepted p
  pub unrefused : byte s.block 5 ≡ 0

-- "the packets are those of the plain machine": a step that feeds nothing gives none; a read gives the machine's packet, and its stamp stands in
-- bytes 8 to 15, or End is told by bit 1; a seek to a chunk leaves that chunk's stamp there, and bit 1 clear. No seek is refused: a command
-- names stream 0 or 1.
abbrev pub Agrees : Option MachineAnswer → StepAnswer → Type 0
Agrees None s = packet_in s.answer ≡ None
Agrees (Some (gives p)) s = Accepts s (Some p) × (le 8 s.block 8 ≡ p.stamp)
Agrees (Some ends) s = Accepts s None × (bit 1 (byte s.block 1) ≡ true)
Agrees (Some (goes stamp)) s = Accepts s None × (le 8 s.block 8 ≡ stamp) × (bit 1 (byte s.block 1) ≡ false)
Agrees (Some goes_to_end) s = Accepts s None
Agrees (Some refuses) s = ⊥

-- each step of a list, from position k of the machine
abbrev pub AllAgree : (ℕ → Call → MachineStep) → ℕ → List (List ℕ) → List StepAnswer → Type 0
AllAgree step k [] [] = Unit
AllAgree step k [] (s ∷ said) = ⊥
AllAgree step k (block ∷ blocks) [] = ⊥
AllAgree step k (block ∷ blocks) (s ∷ said) =
    Agrees (machine_said step k (fed block)) s × AllAgree step (machine_place step k (fed block)) blocks said

-- all that is claimed of one list of steps: what each showed, and of the walker that the last one left "the position" and the packets left
pub record StepsAgreed (file : List ℕ) (cs : List Chunk) (blocks : List (List ℕ)) (w : Walker) (said : List StepAnswer) : Type 0 where
  pub agree : AllAgree (machine_step (drain cs)) 0 blocks said
  pub left : PacketsLeft file w (drop (machine_after (drain cs) 0 (fed_by blocks)) (drain cs))
  pub stands : machine_after (drain cs) 0 (fed_by blocks) < length cs → AtChunk cs (machine_after (drain cs) 0 (fed_by blocks)) w

-- the same of a file with this walk, be it finished or not, by its machine
pub record StepsAlong (file : List ℕ) (v : Walk) (blocks : List (List ℕ)) (w : Walker) (said : List StepAnswer) : Type 0 where
  pub agree : AllAgree (file_step v) 0 blocks said
  pub leaves : LeftAlong file v (fed_by blocks) w

-- ---- lists of steps

-- "each call gets the walker that the last one returned"
unfoldable pub shown : List ℕ → List ℕ → Walker → List (List ℕ) → List StepAnswer
shown file table w [] = []
shown file table w (block ∷ blocks) =
    shown_by (step_of file table w block) ∷ shown file table (step_of file table w block).walker blocks

unfoldable pub after : List ℕ → List ℕ → Walker → List (List ℕ) → Walker
after file table w [] = w
after file table w (block ∷ blocks) = after file table (step_of file table w block).walker blocks

-- ONE claim about every list of steps, with ANY block at each of them, on every finished recording with its own index
abbrev pub RegisterSteps : Type 0
RegisterSteps =
    (file : List ℕ) (cs : List Chunk) → Bytes file → Finished file cs → (table : List ℕ) → OwnIndex file table
    → (blocks : List (List ℕ)) → StepsAgreed file cs blocks (after file table fresh blocks) (shown file table fresh blocks)

-- the same for every file whose index is accepted: cut at any byte, with bytes after its trailer, of any prelude
abbrev pub IndexedSteps : Type 0
IndexedSteps =
    (file : List ℕ) → Bytes file → (table : List ℕ) → OwnIndex file table
    → (blocks : List (List ℕ)) → StepsAlong file (file_walk file) blocks (after file table fresh blocks) (shown file table fresh blocks)

-- a step over any state that stands for a walker: it shows what 02's step does, and leaves a state that stands for its walker
abbrev pub SteppingAs : {S : Type 0} → (S → Walker → Type 0) → (S → List ℕ → StepAnswer → S → Type 0) → List ℕ → List ℕ → Type 0
SteppingAs {S} Stands Step file table =
    (s : S) (block : List ℕ) (answer : StepAnswer) (next : S) (w : Walker) → Stands s w → Step s block answer next
    → (answer ≡ shown_by (step_of file table w block)) × Stands next (step_of file table w block).walker

-- the same claims of what such steps showed and left
pub record EveryStep : Type 1 where
  pub finished : {S : Type 0} (Stands : S → Walker → Type 0) (Step : S → List ℕ → StepAnswer → S → Type 0)
      → (file : List ℕ) (cs : List Chunk) → Bytes file → Finished file cs → (table : List ℕ) → OwnIndex file table
      → SteppingAs Stands Step file table
      → (s : S) (blocks : List (List ℕ)) (said : List StepAnswer) (last : S) → Stands s fresh → CallsRan Step s blocks said last
      → (w : Walker) × (Stands last w × StepsAgreed file cs blocks w said)
  pub indexed : {S : Type 0} (Stands : S → Walker → Type 0) (Step : S → List ℕ → StepAnswer → S → Type 0)
      → (file : List ℕ) → Bytes file → (table : List ℕ) → OwnIndex file table
      → SteppingAs Stands Step file table
      → (s : S) (blocks : List (List ℕ)) (said : List StepAnswer) (last : S) → Stands s fresh → CallsRan Step s blocks said last
      → (w : Walker) × (Stands last w × StepsAlong file (file_walk file) blocks w said)
