-- One read. Assumes nothing.
use Rattle.std.specs.Prelude.{◌≡◌, ℕ, ◌+◌, ◌≤◌, true, false, cond, List, leb, length, take, drop}
use Rattle.std.specs.Prelude.{Result, Ok, Err}
use Rattle.std.specs.Prelude.{Option, Some, None}
use Rattle.error.specs.declared.AmvError.{AmvError}
use Rattle.error.specs.Answer.{numbered}
use Rattle.error.specs.Refusal.{refusal_of}
use Rattle.error.specs.declared.Refusal.{Refusal}
use Rattle.fields.specs.File.{within_limit}
use Rattle.demuxer.specs.Position.{start, in_range, past_frame, past_sound}
use Rattle.demuxer.specs.Head.{head_at, count_of}
use Rattle.demuxer.specs.Packet.{Shown, packet_duration, shown_of}
use Rattle.demuxer.specs.declared.head.Head.{Head}
use Rattle.demuxer.specs.declared.head.Head.TheVariants as head
use Rattle.demuxer.specs.declared.packet.Packet.{Packet}
use Rattle.demuxer.specs.declared.position.Position.{Position}
use Rattle.demuxer.specs.declared.walker.Walker.{Walker}
use Rattle.demuxer.specs.declared.walker.Read.{Read}

-- "A fresh one starts at 316 with zero counters, no mark and no trailer"
abbrev pub fresh : Walker
fresh = record { position = start; end = false; cut = false; trailer = None }

-- what a read answers: a packet, End, or a refusal
pub data ReadAnswer : Type 0 where
  packet : Shown → ReadAnswer
  End : ReadAnswer
  refused : Refusal → ReadAnswer

-- the answer and the walker after it
pub record Reading : Type 0 where
  pub answer : ReadAnswer
  pub walker : Walker

abbrev pub said_next : List ℕ → Result (Option Packet) AmvError → ReadAnswer
said_next file (Ok (Some p)) = packet (shown_of file p)
said_next file (Ok None) = End
said_next file (Err e) = refused (refusal_of e)

abbrev pub said_read : List ℕ → Read → Reading
said_read file r = record { answer = said_next file r.answer; walker = r.walker }

-- "its payload (a part of the file)": it starts past the 8 bytes at the cursor, and the file has all of it
abbrev pub PlacedAt : List ℕ → Walker → Packet → Type 0
PlacedAt file w p = (p.start ≡ w.position.cursor + 8) × (p.start + p.len ≤ length file)

abbrev pub Placed : List ℕ → Walker → Result (Option Packet) AmvError → Type 0
Placed file w (Ok (Some p)) = PlacedAt file w p
Placed file w (Ok None) = Unit
Placed file w (Err e) = Unit

-- a refusal returns the walker that it was given
abbrev pub refuse : ℕ → ℕ → Walker → Reading
refuse number place w = record { answer = refused (numbered number place); walker = w }

-- "set end and cut, cursor unmoved"
abbrev pub cut_off : Walker → Walker
cut_off w = record { position = w.position; end = true; cut = true; trailer = w.trailer }

-- "The third sets end and trailer."
abbrev pub at_trailer : Walker → Walker
at_trailer w = record { position = w.position; end = true; cut = w.cut; trailer = Some w.position.cursor }

abbrev pub advanced : Walker → Position → Walker
advanced w p = record { position = p; end = w.end; cut = w.cut; trailer = w.trailer }

-- the payload that starts after a header at an offset, as far as the file has it
abbrev pub payload_at : List ℕ → ℕ → ℕ → List ℕ
payload_at file at size = take size (drop (at + 8) file)

-- "If the payload is not whole: End, set end and cut, cursor unmoved. Otherwise a packet"
abbrev pub if_whole : List ℕ → Walker → ℕ → Reading → Reading
if_whole file w size reading = cond (leb (w.position.cursor + 8 + size) (length file)) reading (record { answer = End; walker = cut_off w })

-- "Frames: duration 1, stamp + 1."
unfoldable pub read_frame : List ℕ → Walker → ℕ → Reading
read_frame file w size =
    if_whole file w size
    (record {
      answer =
          packet (record { stream = 0; payload = payload_at file w.position.cursor size; stamp = w.position.frames.0; duration = Some 1 });
      walker = advanced w (past_frame w.position size);
    })

-- "Sound: block count + 1; duration is the u32 at payload 4, or 0 under 8 bytes; the stamp grows by it."
unfoldable pub read_sound : List ℕ → Walker → ℕ → Reading
read_sound file w size =
    let payload = payload_at file w.position.cursor size in
    if_whole file w size
    (record {
      answer = packet (record { stream = 1; payload = payload; stamp = w.position.samples.0; duration = (packet_duration (count_of payload)) });
      walker = advanced w (past_sound w.position size (count_of payload));
    })

abbrev pub read_head : List ℕ → Walker → Head → Reading
read_head file w head.Short = record { answer = End; walker = cut_off w }
read_head file w head.Trailer = record { answer = End; walker = at_trailer w }
read_head file w head.Unknown = refuse 31 w.position.cursor w
read_head file w (head.Video size) = read_frame file w size
read_head file w (head.Audio size) = read_sound file w size

unfoldable pub read_chunk : List ℕ → Walker → Reading
read_chunk file w = read_head file w (head_at file w.position.cursor)

-- 01's `next_packet`: 10, 32, "Ended .. : answer End", and what stands at the cursor
unfoldable pub read_of : List ℕ → Walker → Reading
read_of file w =
    cond (within_limit file)
    (cond (in_range w.position) (cond w.end (record { answer = End; walker = w }) (read_chunk file w)) (refuse 32 0 w))
    (refuse 10 0 w)
