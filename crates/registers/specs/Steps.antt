-- Steps on the way: what functions below the step promise each other. Nothing here need be believed. Assumes nothing.
use Rattle.std.specs.Prelude.{ℕ, ◌+◌, Bool, cond, List, ◌++◌, drop}
use Rattle.std.specs.Prelude.{Result, Ok, Err}
use Rattle.std.specs.Prelude.{Option, Some, None}
use Rattle.error.specs.declared.AmvError.{AmvError}
use Rattle.std.specs.Int.{w64}
use Rattle.std.proofs.Common.{to_z}
use Rattle.error.specs.Answer.{Answer, accepted}
use Rattle.error.specs.Answer as answer
use Rattle.error.specs.Refusal.{refusal_of}
use Rattle.demuxer.specs.Packet.{shown_of}
use Rattle.demuxer.specs.Read.{PlacedAt}
use Rattle.demuxer.specs.declared.packet.Packet.{Packet}
use Rattle.demuxer.specs.declared.walker.Walker.{Walker}
use Rattle.fields.specs.Le.{le_bytes, put_le}
use Rattle.recording.specs.Machine.{Call, read, seek}
use Rattle.registers.specs.Registers as registers
use Rattle.registers.specs.declared.Command.{Command}
use Rattle.registers.specs.declared.Command.TheVariants as command
use Rattle.registers.specs.declared.Done.{Done}
use Rattle.registers.specs.declared.Done.TheVariants as done
use Rattle.registers.specs.declared.Performed.{Performed}
use Rattle.registers.specs.declared.Told.{Told}
use Rattle.registers.specs.declared.Told.TheVariants.{Nothing, Gave, Went, Refused}

-- a command as a call
abbrev pub call_of : Command → Option Call
call_of command.None = None
call_of command.Read = Some read
call_of (command.Seek stream request) = Some (seek stream (to_z w64 request))

abbrev pub said_command : Result Command AmvError → Answer (Option Call)
said_command (Ok c) = accepted (call_of c)
said_command (Err e) = answer.refused (refusal_of e)

-- what a command has done, in the code's terms
abbrev pub said_done : List ℕ → Done → registers.Done
said_done file done.Nothing = registers.nothing
said_done file (done.Gave p) = registers.gave (shown_of file p)
said_done file (done.Went stamp) = registers.went stamp
said_done file (done.Refused e) = registers.refused (refusal_of e)

abbrev pub said_performed : List ℕ → Performed → registers.Performed
said_performed file p = record { done = said_done file p.done; walker = p.walker }

abbrev pub DonePlaced : List ℕ → Walker → Done → Type 0
DonePlaced file w done.Nothing = Unit
DonePlaced file w (done.Gave p) = PlacedAt file w p
DonePlaced file w (done.Went stamp) = Unit
DonePlaced file w (done.Refused e) = Unit

-- by what a read or a seek answered
abbrev pub read_done : Result (Option Packet) AmvError → Done
read_done (Ok (Some p)) = done.Gave p
read_done (Ok None) = done.Nothing
read_done (Err e) = done.Refused e

abbrev pub seek_done : Result ℕ AmvError → Done
seek_done (Ok stamp) = done.Went stamp
seek_done (Err e) = done.Refused e

-- what the block tells of it: of the code's, and of the definition's
abbrev pub told_of : Done → Told
told_of done.Nothing = Nothing
told_of (done.Gave p) = Gave p.stamp
told_of (done.Went stamp) = Went stamp
told_of (done.Refused e) = Refused (refusal_of e).number

abbrev pub told_by : registers.Done → Told
told_by registers.nothing = Nothing
told_by (registers.gave p) = Gave p.stamp
told_by (registers.went stamp) = Went stamp
told_by (registers.refused r) = Refused r.number

-- and what the block has of that
abbrev pub bits_of : Told → ℕ
bits_of Nothing = 0
bits_of (Gave stamp) = 1
bits_of (Went stamp) = 0
bits_of (Refused number) = 8

abbrev pub number_of : Told → ℕ
number_of Nothing = 0
number_of (Gave stamp) = 0
number_of (Went stamp) = 0
number_of (Refused number) = number

abbrev pub stamped_by : Told → List ℕ → List ℕ
stamped_by Nothing block = block
stamped_by (Gave stamp) block = put_le 8 block 8 stamp
stamped_by (Went stamp) block = put_le 8 block 8 stamp
stamped_by (Refused number) block = block

abbrev pub request_told : List ℕ → Told → List ℕ
request_told block Nothing = drop 8 block
request_told block (Gave stamp) = le_bytes 8 stamp
request_told block (Went stamp) = le_bytes 8 stamp
request_told block (Refused number) = drop 8 block

-- the block after a step, by what is told and the walker's marks
unfoldable pub block_told : List ℕ → Told → Bool → Bool → List ℕ
block_told block t end cut =
    registers.front_after block (bits_of t + cond end 2 0 + cond cut 4 0) (number_of t) ++ request_told block t

-- what the answer has of it
abbrev pub result_of : Done → Result (Option Packet) AmvError
result_of done.Nothing = (Ok None)
result_of (done.Gave p) = Ok (Some p)
result_of (done.Went stamp) = (Ok None)
result_of (done.Refused e) = (Ok None)
