-- A packet, and what document 01 compares of it. Assumes nothing.
use Rattle.std.specs.Prelude.{ℕ, ◌+◌, cond, List, [], leb, eqb, length, take, drop}
use Rattle.std.specs.Prelude.{Option, Some, None}
use Rattle.demuxer.specs.declared.packet.Packet.{Packet}

-- "stream, payload, stamp and duration"
pub record Shown : Type 0 where
  pub stream : ℕ
  pub payload : List ℕ
  pub stamp : ℕ
  pub duration : Option ℕ

-- "A zero sound duration is shown as none."
abbrev pub packet_duration : ℕ → Option ℕ
packet_duration count = cond (eqb count 0) None (Some count)

-- "its payload (a part of the file)"
unfoldable pub payload_of : List ℕ → Packet → List ℕ
payload_of file p = cond (leb (p.start + p.len) (length file)) (take p.len (drop p.start file)) []

unfoldable pub shown_of : List ℕ → Packet → Shown
shown_of file p = record { stream = p.stream; payload = payload_of file p; stamp = p.stamp; duration = p.duration }
