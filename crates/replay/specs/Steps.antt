-- Steps on the way: what functions below the calls promise each other. Nothing here need be believed. Assumes nothing.
use Rattle.std.specs.Prelude.{◌≡◌, ℕ, List, Result, Ok, Err, Option, Some, None}
use Rattle.error.specs.declared.AmvError.{AmvError}
use Rattle.error.specs.Refusal.{refusal_of}
use Rattle.demuxer.specs.declared.packet.Packet.{Packet}
use Rattle.demuxer.specs.declared.walker.Walker.{Walker}
use Rattle.recording.specs.Machine as machine
use Rattle.replay.specs.Replay.{refusal_row, packet_row, row_of, row_answer}
use Rattle.replay.specs.declared.Call.{Call}
use Rattle.replay.specs.declared.Call.TheVariants.{Read, Seek}
use Rattle.replay.specs.declared.Row.{Row}

-- a call of the code as the claims have it
abbrev pub called : Call → machine.Call
called Read = machine.read
called (Seek stream request) = machine.seek stream request

-- a read's row in the code's terms, where a packet names its payload itself
abbrev pub next_row : Result (Option Packet) AmvError → Row
next_row (Ok (Some p)) = packet_row p.stream p.start p.len p.stamp p.duration
next_row (Ok None) = refusal_row 0 0 0
next_row (Err e) = refusal_row 3 (refusal_of e).number (refusal_of e).place

-- the row is the one of the call's answer, and says it
pub record Answered (file table : List ℕ) (w : Walker) (c : machine.Call) (r : Row × Walker) : Type 0 where
  pub row_is : r.0 ≡ row_of w (machine.call file table w c).answer
  pub said_is : row_answer file r.0 ≡ (machine.call file table w c).answer
  pub walker_is : r.1 ≡ (machine.call file table w c).walker
