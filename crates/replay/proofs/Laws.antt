-- What a call's row says. Assumes nothing.
use mathlib.Core.Path.{◌≡◌, refl, sym, ap, ◌∙◌}
use Prim.Native.Nat.{ℕ}
use mathlib.Core.List.{List}
use lib.IntN.{ℤ}
use Rattle.std.proofs.Common.{Result, Ok, Err, Option, Some, None}
use Rattle.error.specs.Answer.{Answer, accepted, refused}
use Rattle.error.specs.Refusal.{said}
use Rattle.error.specs.declared.AmvError.{AmvError}
use Rattle.demuxer.specs.Packet.{shown_of}
use Rattle.demuxer.specs.Read.{packet, said_next, said_read, Placed, read_of}
use Rattle.demuxer.proofs.Bodies.{length-payload}
use Rattle.demuxer.specs.declared.walker.Walker.{Walker}
use Rattle.demuxer.specs.declared.walker.Read.{Read}
use Rattle.demuxer.specs.declared.packet.Packet.{Packet}
use Rattle.seek.specs.Seek.{said_seek_outcome, seek_of}
use Rattle.seek.specs.declared.SeekOutcome.{SeekOutcome}
use Rattle.recording.specs.Machine.{read, seek, read_answer, seek_answer, call}
use Rattle.replay.specs.Replay.{row_answer, packet_row, read_row, sought_row}
use Rattle.replay.specs.Steps.{next_row, Answered}
use Rattle.replay.specs.declared.Row.{Row}

-- ---- the row of an answer, and the answer of a row

-- of a packet that is placed where it was read, the row is the one of what is shown
next_row_lem : (file : List ℕ) (w : Walker) (a : Result (Option Packet) AmvError) → Placed file w a → next_row a ≡ read_row w (said_next file a)
unfolding shown_of
next_row_lem file w (Ok (Some p)) h = λ i. packet_row p.stream (h.0 i) (sym (length-payload file p h.1) i) p.stamp p.duration
next_row_lem file w (Ok None) h = refl
next_row_lem file w (Err e) h = refl

packet-said : (file : List ℕ) (p : Packet) (d : Option ℕ)
    → row_answer file (packet_row p.stream p.start p.len p.stamp d)
    ≡ read_answer (packet (shown_of file (record { stream = p.stream; start = p.start; len = p.len; stamp = p.stamp; duration = d })))
unfolding row_answer
packet-said file p (Some n) = refl
packet-said file p None = refl

read-said : (file : List ℕ) (a : Result (Option Packet) AmvError) → row_answer file (next_row a) ≡ read_answer (said_next file a)
unfolding row_answer
read-said file (Ok (Some p)) = packet-said file p p.duration
read-said file (Ok None) = refl
read-said file (Err e) = refl

seek-said : (file : List ℕ) (a : Answer ℕ) → row_answer file (sought_row a) ≡ seek_answer a
unfolding row_answer
seek-said file (accepted stamp) = refl
seek-said file (refused r) = refl

-- ---- one call

module _ (file table : List ℕ) (w : Walker) where
  pub read_called : (r : Read) {row : Row} → said_read file r ≡ read_of file w → Placed file w r.answer → row ≡ next_row r.answer
      → Answered file table w read (row, r.walker)
  unfolding call
  read_called r e placed is =
      record {
        row_is = is ∙ next_row_lem file w r.answer placed ∙ ap (λ q. read_row w q.answer) e;
        said_is = ap (row_answer file) is ∙ read-said file r.answer ∙ ap (λ q. read_answer q.answer) e;
        walker_is = ap (λ q. q.walker) e;
      }

  pub seek_called : (stream : ℕ) (request : ℤ) (r : SeekOutcome) {row : Row} → said_seek_outcome r ≡ seek_of table w stream request
      → row ≡ sought_row (said r.result) → Answered file table w (seek stream request) (row, r.walker)
  unfolding call
  seek_called stream request r e is =
      record {
        row_is = is ∙ ap (λ q. sought_row q.answer) e;
        said_is = ap (row_answer file) is ∙ seek-said file (said r.result) ∙ ap (λ q. seek_answer q.answer) e;
        walker_is = ap (λ q. q.walker) e;
      }
