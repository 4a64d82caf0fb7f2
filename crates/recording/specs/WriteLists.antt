-- Lists of writing calls, and the claim about every one of them. Assumes nothing.
use Rattle.std.specs.Prelude.{◌≡◌, ℕ, ◌≤◌, ◌<◌, take}
use mathlib.Core.List.{List, [], ◌∷◌, Memᴰ}
use Rattle.fields.specs.Capped.{u32_max}
use Rattle.error.specs.Answer.{Answer, accepted, refused}
use Rattle.demuxer.specs.Packet.{Shown}
use Rattle.muxer.specs.Writer.{fresh, WriteOutcome, header_call, packet_call, trailer_call}
use Rattle.muxer.specs.declared.Settings.{Settings}
use Rattle.muxer.specs.declared.Writer.{Writer}
use Rattle.walk.specs.Chunks.{Chunk}
use Rattle.recording.specs.Drain.{drain}
use Rattle.recording.specs.Grammar.{Finished}

-- a header, a packet of a payload and a stream, or a trailer
pub data WriteCall : Type 0 where
  header : WriteCall
  packet : List ℕ → ℕ → WriteCall
  trailer : WriteCall

unfoldable pub write_step : Writer → List ℕ → WriteCall → WriteOutcome
write_step w buf header = header_call w buf
write_step w buf (packet payload stream) = packet_call w payload stream buf
write_step w buf trailer = trailer_call w buf

abbrev pub kept : Answer Unit → WriteCall → List WriteCall → List WriteCall
kept (accepted u) c cs = c ∷ cs
kept (refused r) c cs = cs

-- the calls of a list that are accepted; "each call gets the state that the last one returned"
unfoldable pub accepted_calls : Writer → List ℕ → List WriteCall → List WriteCall
accepted_calls w buf [] = []
accepted_calls w buf (c ∷ cs) = kept (write_step w buf c).answer c (accepted_calls (write_step w buf c).writer (write_step w buf c).buffer cs)

-- the state and the buffer after a list
unfoldable pub writer_after : Writer → List ℕ → List WriteCall → Writer
writer_after w buf [] = w
writer_after w buf (c ∷ cs) = writer_after (write_step w buf c).writer (write_step w buf c).buffer cs

unfoldable pub buffer_after : Writer → List ℕ → List WriteCall → List ℕ
buffer_after w buf [] = buf
buffer_after w buf (c ∷ cs) = buffer_after (write_step w buf c).writer (write_step w buf c).buffer cs

-- "The file is the first bytes-written bytes of one lent buffer, which nothing but these calls changes during a list of them"
abbrev pub written_file : Writer → List ℕ → List WriteCall → List ℕ
written_file w buf calls = take (writer_after w buf calls).written (buffer_after w buf calls)

-- a packet's stream and payload
pub record Sent : Type 0 where
  pub stream : ℕ
  pub payload : List ℕ

unfoldable pub sent_by : List WriteCall → List Sent
sent_by [] = []
sent_by (header ∷ cs) = sent_by cs
sent_by (packet payload stream ∷ cs) = record { stream = stream; payload = payload } ∷ sent_by cs
sent_by (trailer ∷ cs) = sent_by cs

unfoldable pub sent_in : List Shown → List Sent
sent_in [] = []
sent_in (p ∷ ps) = record { stream = p.stream; payload = p.payload } ∷ sent_in ps

-- settings that their fields hold, as those of code always are
pub record Held (s : Settings) : Type 0 where
  pub width_held : s.width ≤ u32_max
  pub height_held : s.height ≤ u32_max
  pub fps_held : s.fps ≤ u32_max
  pub rate_held : s.rate ≤ u32_max

-- a header and a trailer are among the accepted calls, and the settings have "fps above 0 and one channel"
pub record Closed (s : Settings) (said : List WriteCall) : Type 0 where
  pub fps_positive : 0 < s.fps
  pub one_channel : s.channels ≡ 1
  pub begun : Memᴰ header said
  pub ended : Memᴰ trailer said

-- a list from a fresh state in which they were accepted
pub record Completed (s : Settings) (buf : List ℕ) (calls : List WriteCall) : Type 0 where
  pub held : Held s
  pub closed : Closed s (accepted_calls (fresh s) buf calls)

-- a finished file that "drains to the accepted packets' streams and payloads in order"
pub record Drains (file : List ℕ) (said : List WriteCall) : Type 0 where
  pub chunks : List Chunk
  pub finished : Finished file chunks
  pub drains : sent_in (drain chunks) ≡ sent_by said

-- all that 01 claims of a list of writing calls: of the calls that were accepted, and of the file that they left
pub record WritesAgreed (s : Settings) (file : List ℕ) (said : List WriteCall) : Type 0 where
  pub finish : Closed s said → Drains file said
  -- "two such lists whose accepted packets differ never give equal files"
  pub apart : Closed s said → (t : Settings) (other : List ℕ) (more : List WriteCall) → Completed t other more
      → file ≡ written_file (fresh t) other more → sent_by said ≡ sent_by (accepted_calls (fresh t) other more)

-- Demand 3 for the writer: every list of header, packet and trailer calls, refused ones included
abbrev pub WritesDrain : Type 0
WritesDrain =
    (s : Settings) (buf : List ℕ) (calls : List WriteCall) → Held s
    → WritesAgreed s (written_file (fresh s) buf calls) (accepted_calls (fresh s) buf calls)
