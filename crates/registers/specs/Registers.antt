-- The register block of a panel's controller, and one step of it. Document 02, M-106. Assumes nothing.
use Rattle.std.specs.Prelude.{◌≡◌, ℕ, ◌+◌, ◌-◌, cond, List, [], ◌∷◌, ◌++◌, leb, eqb, ℤ, length, drop, get_or}
use Rattle.std.specs.Prelude.{Result, Ok, Err}
use Rattle.std.specs.Prelude.{Option, Some, None}
use Rattle.error.specs.declared.AmvError.{AmvError}
use Rattle.std.specs.Int.Bits.{bit_and, bit_or}
use Rattle.std.specs.Int.{w64}
use Rattle.std.proofs.Common.{to_z}
use Rattle.error.specs.Answer.{Answer, accepted, ask}
use Rattle.error.specs.Answer as answer
use Rattle.error.specs.Refusal.{refusal_of}
use Rattle.error.specs.declared.Refusal.{Refusal}
use Rattle.fields.specs.Le.{le, le_bytes}
use Rattle.demuxer.specs.Packet.{Shown, shown_of}
use Rattle.demuxer.specs.Read.{packet, End, PlacedAt}
use Rattle.demuxer.specs.Read as read_answers
use Rattle.demuxer.specs.declared.packet.Packet.{Packet}
use Rattle.demuxer.specs.declared.walker.Walker.{Walker}
use Rattle.recording.specs.Machine.{Call, read, seek, CallAnswer, read_answer, seek_answer, call}
use Rattle.registers.specs.declared.RegisterStep.{RegisterStep}

-- byte i of the block
abbrev pub byte : List ℕ → ℕ → ℕ
byte block i = get_or block i 0

-- 02: "Bytes 8 to 15 hold the signed request, little-endian"
abbrev pub request_in : List ℕ → ℤ
request_in block = to_z w64 (le 8 block 8)

-- "Byte 0 is the command: 0 none, 1 read, 2 seek picture, 3 seek sound": the call that it makes, if any
unfoldable pub commanded : ℕ → ℤ → Option Call
commanded command request =
    cond (eqb command 1) (Some read)
    (cond (eqb command 2) (Some (seek 0 request)) (cond (eqb command 3) (Some (seek 1 request)) None))

-- "block not 16 bytes, 74, first; command above 3, 75, second. These two alone refuse the step"
unfoldable pub command_in : List ℕ → Answer (Option Call)
command_in block =
    ask (eqb (length block) 16) 74 0
    (ask (leb (byte block 0) 3) 75 0 (accepted (commanded (byte block 0) (request_in block))))

-- a byte's bits without those of another
abbrev pub without : ℕ → ℕ → ℕ
without bits others = bit_and bits (255 - others)

-- "A step clears in byte 3 each bit set in byte 4": what is left of byte 3
abbrev pub acknowledged : List ℕ → ℕ
acknowledged block = without (byte block 3) (byte block 4)

-- what a command has done: nothing that is told (there was none, or its read answered End), or its read gave a packet, or its seek was
-- accepted with a stamp, or either was refused
pub data Done : Type 0 where
  nothing : Done
  gave : Shown → Done
  went : ℕ → Done
  refused : Refusal → Done

abbrev pub done_of : CallAnswer → Done
done_of (read_answer (packet p)) = gave p
done_of (read_answer End) = nothing
done_of (read_answer (read_answers.refused r)) = refused r
done_of (seek_answer (accepted stamp)) = went stamp
done_of (seek_answer (answer.refused r)) = refused r

-- that, and the walker after it
pub record Performed : Type 0 where
  pub done : Done
  pub walker : Walker

-- "then performs the command": by 01's read and seek (`call` is `read_of` or `seek_of`)
abbrev pub perform : List ℕ → List ℕ → Walker → Option Call → Performed
perform file table w None = record { done = nothing; walker = w }
perform file table w (Some c) = record { done = done_of (call file table w c).answer; walker = (call file table w c).walker }

-- "writes status anew": "Bit 0 is set exactly when this step's read gave a packet, .. bit 3 is set exactly when this step's read or seek was refused"
abbrev pub done_bits : Done → ℕ
done_bits nothing = 0
done_bits (gave p) = 1
done_bits (went stamp) = 0
done_bits (refused r) = 8

-- "bits 1 and 2 are the walker's marks", end and cut, "and bits 4 to 7 are 0"
abbrev pub status_of : Performed → ℕ
status_of p = done_bits p.done + cond p.walker.end 2 0 + cond p.walker.cut 4 0

-- "makes pending each enabled bit that went from 0 in the old byte 1 to 1": beside those that are left
unfoldable pub pending_of : List ℕ → ℕ → ℕ
pending_of block status = bit_or (acknowledged block) (bit_and (byte block 2) (without status (byte block 1)))

-- the packet of this step's read
abbrev pub packet_of : Done → Option Shown
packet_of nothing = None
packet_of (gave p) = Some p
packet_of (went stamp) = None
packet_of (refused r) = None

-- "Byte 5 is this step's refusal number, 0 if none."
abbrev pub refusal_number : Done → ℕ
refusal_number nothing = 0
refusal_number (gave p) = 0
refusal_number (went stamp) = 0
refusal_number (refused r) = r.number

-- "and zeroes bytes 0 and 4. .. Bytes 2, 6 and 7 are never changed.": bytes 0 to 7 after a step
abbrev pub front_after : List ℕ → ℕ → ℕ → List ℕ
front_after block status number =
    0 ∷ status ∷ byte block 2 ∷ pending_of block status ∷ 0 ∷ number ∷ byte block 6 ∷ byte block 7 ∷ []

-- bytes 8 to 15: "after a read that gave a packet or an accepted seek they hold its stamp, else they stay"
abbrev pub request_after : List ℕ → Done → List ℕ
request_after block nothing = drop 8 block
request_after block (gave p) = le_bytes 8 p.stamp
request_after block (went stamp) = le_bytes 8 stamp
request_after block (refused r) = drop 8 block

unfoldable pub block_after : List ℕ → Performed → List ℕ
block_after block p = front_after block (status_of p) (refusal_number p.done) ++ request_after block p.done

-- what a step answers, a packet "which the step then returns beside the walker" or none, and what it leaves
pub record Stepping : Type 0 where
  pub answer : Answer (Option Shown)
  pub walker : Walker
  pub block : List ℕ

-- "where only its read or seek is refused, the step itself is accepted"
abbrev pub stepped : List ℕ → Performed → Stepping
stepped block p = record { answer = accepted (packet_of p.done); walker = p.walker; block = block_after block p }

-- 74 and 75 "change no byte"
abbrev pub stepped_from : List ℕ → List ℕ → Walker → List ℕ → Answer (Option Call) → Stepping
stepped_from file table w block (accepted c) = stepped block (perform file table w c)
stepped_from file table w block (answer.refused r) = record { answer = answer.refused r; walker = w; block = block }

-- 02's step
unfoldable pub step_of : List ℕ → List ℕ → Walker → List ℕ → Stepping
step_of file table w block = stepped_from file table w block (command_in block)

-- what the code returns
abbrev pub said_step : List ℕ → Result (Option Packet) AmvError → Answer (Option Shown)
said_step file (Ok (Some p)) = accepted (Some (shown_of file p))
said_step file (Ok None) = accepted None
said_step file (Err e) = answer.refused (refusal_of e)

-- a packet names its payload as that of a read does
abbrev pub StepPlaced : List ℕ → Walker → Result (Option Packet) AmvError → Type 0
StepPlaced file w (Ok (Some p)) = PlacedAt file w p
StepPlaced file w (Ok None) = Unit
StepPlaced file w (Err e) = Unit

-- the contract of a step: file, table, walker and block before it, what it returns, and the block after it
pub record MeetsStep (file table : List ℕ) (w : Walker) (before : List ℕ) (r : RegisterStep) (after : List ℕ) : Type 0 where
  pub answer : said_step file r.result ≡ (step_of file table w before).answer
  pub walker : r.walker ≡ (step_of file table w before).walker
  pub block : after ≡ (step_of file table w before).block
  pub placed : StepPlaced file w r.result
