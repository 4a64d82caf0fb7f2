-- The recording that the program writes, and the walker that playing leaves. Assumes nothing.
use Rattle.std.specs.Prelude.{◌≡◌, ℕ, zero, suc, List, [], ◌∷◌}
use Rattle.demuxer.specs.Read.{ReadAnswer, packet, End, refused, read_of}
use Rattle.demuxer.specs.declared.walker.Walker.{Walker}
use Rattle.muxer.specs.Writer.{WriteOutcome, header_call, packet_call, trailer_call, fresh}
use Rattle.muxer.specs.declared.Settings.{Settings}
use Rattle.muxer.specs.declared.Writer.{Writer}

-- what a function that writes leaves of a call's outcome, once it has printed the answer
pub record WriterLeft (o : WriteOutcome) (w : Writer) (after : List ℕ) : Type 0 where
  pub writer : w ≡ o.writer
  pub buffer : after ≡ o.buffer

-- one more packet after a call's outcome
abbrev pub then_packet : WriteOutcome → List ℕ → ℕ → WriteOutcome
then_packet o payload stream = packet_call o.writer payload stream o.buffer

-- a frame with its block of sound
abbrev pub pair_of : Writer → List ℕ → List ℕ → List ℕ → WriteOutcome
pair_of w buf frame block = then_packet (packet_call w frame 0 buf) block 1

-- "one", 2 samples; "three", 3 samples; and a packet of no stream
abbrev pub packets_of : Writer → List ℕ → WriteOutcome
packets_of w buf =
    let first = pair_of w buf (111 ∷ 110 ∷ 101 ∷ []) (0 ∷ 0 ∷ 0 ∷ 0 ∷ 2 ∷ 0 ∷ 0 ∷ 0 ∷ 7 ∷ 7 ∷ []) in
    let second = pair_of first.writer first.buffer (116 ∷ 104 ∷ 114 ∷ 101 ∷ 101 ∷ []) (0 ∷ 0 ∷ 0 ∷ 0 ∷ 3 ∷ 0 ∷ 0 ∷ 0 ∷ 7 ∷ 7 ∷ 7 ∷ []) in
    then_packet second (110 ∷ 111 ∷ 110 ∷ 101 ∷ []) 2

abbrev pub settings : Settings
settings = record { width = 8; height = 8; fps = 12; rate = 8000; channels = 1 }

abbrev pub recording_of : List ℕ → WriteOutcome
recording_of buf =
    let header = header_call (fresh settings) buf in
    let packets = packets_of header.writer header.buffer in
    trailer_call packets.writer packets.buffer

-- reads until one gives no packet, at most n
abbrev pub go_on : ReadAnswer → Walker → Walker → Walker
go_on (packet p) next after = after
go_on End next after = next
go_on (refused r) next after = next

unfoldable pub played : ℕ → List ℕ → Walker → Walker
played zero file w = w
played (suc n) file w = go_on (read_of file w).answer (read_of file w).walker (played n file (read_of file w).walker)
