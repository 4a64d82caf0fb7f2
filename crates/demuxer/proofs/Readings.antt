-- A read is one of eight: what holds of each holds of every read. Assumes nothing.
use mathlib.Core.Path.{◌≡◌, refl}
use Rattle.std.proofs.Common.{Some}
use mathlib.Core.Bool.{Bool, true, false, cond}
use mathlib.Core.List.{List}
use Prim.Native.Nat.{ℕ, ◌+◌, ◌<◌}
use native.Mathlib.Omega.{arith}
use borrow.Author.Tests.{leb-false}
use lib.Dec.{leb}
use lib.ListN.{length}
use Rattle.chunk.specs.Chunk.{kind_of}
use Rattle.chunk.specs.declared.ChunkKind.{ChunkKind}
use Rattle.chunk.specs.declared.ChunkKind.TheVariants.{Video, Audio, Other}
use Rattle.fields.specs.File.{within_limit}
use Rattle.fields.specs.Le.{le}
use Rattle.demuxer.specs.Head.{is_trailer, kind_head, head_at, count_of}
use Rattle.demuxer.specs.Packet.{packet_duration}
use Rattle.demuxer.specs.Position.{in_range, past_frame, past_sound}
use Rattle.demuxer.specs.Read.{Reading, packet, End, refuse, cut_off, at_trailer, advanced, payload_at, read_frame, read_sound, read_head, read_chunk, read_of}
use Rattle.demuxer.specs.declared.head.Head.TheVariants as head
use Rattle.demuxer.specs.declared.walker.Walker.{Walker}

-- the length that stands at the cursor
abbrev pub size_at : List ℕ → Walker → ℕ
size_at file w = le 4 file (w.position.cursor + 4)

-- what a whole frame and a whole block give
abbrev pub frame_read : List ℕ → Walker → ℕ → Reading
frame_read file w size =
    record {
      answer =
          packet (record { stream = 0; payload = payload_at file w.position.cursor size; stamp = w.position.frames.0; duration = Some 1 });
      walker = advanced w (past_frame w.position size);
    }

abbrev pub sound_read : List ℕ → Walker → ℕ → Reading
sound_read file w size =
    let payload = payload_at file w.position.cursor size in
    record {
      answer = packet (record { stream = 1; payload = payload; stamp = w.position.samples.0; duration = (packet_duration (count_of payload)) });
      walker = advanced w (past_sound w.position size (count_of payload));
    }

module _ (file : List ℕ) (w : Walker) (P : Reading → Type 0)
    (too_long : P (refuse 10 0 w))
    (out_of_range : P (refuse 32 0 w))
    (ended : P (record { answer = End; walker = w }))
    (short : length file < w.position.cursor + 8 + size_at file w → P (record { answer = End; walker = cut_off w }))
    (trailer : P (record { answer = End; walker = at_trailer w }))
    (unknown : P (refuse 31 w.position.cursor w))
    (frame : P (frame_read file w (size_at file w)))
    (sound : P (sound_read file w (size_at file w))) where
  whole : (q : Reading) → P q → (b : Bool) → leb (w.position.cursor + 8 + size_at file w) (length file) ≡ b
      → P (cond b q (record { answer = End; walker = cut_off w }))
  whole q p true e = p
  whole q p false e = let l = leb-false (w.position.cursor + 8 + size_at file w) (length file) e in short (omega arith)

  at_head : (a b : Bool) (k : ChunkKind) → leb (w.position.cursor + 8) (length file) ≡ a
      → P (read_head file w (cond a (cond b head.Trailer (kind_head k (size_at file w))) head.Short))
  unfolding read_frame read_sound
  at_head false b k e = let l = leb-false (w.position.cursor + 8) (length file) e in short (omega arith)
  at_head true true k e = trailer
  at_head true false Video e = whole (frame_read file w (size_at file w)) frame _ refl
  at_head true false Audio e = whole (sound_read file w (size_at file w)) sound _ refl
  at_head true false (Other tag) e = unknown

  asked : (a b c : Bool) (q : Reading) → P q → P (cond a (cond b (cond c (record { answer = End; walker = w }) q) (refuse 32 0 w)) (refuse 10 0 w))
  asked false b c q p = too_long
  asked true false c q p = out_of_range
  asked true true true q p = ended
  asked true true false q p = p

  pub read_cases : P (read_of file w)
  unfolding read_of read_chunk head_at
  read_cases =
      let tag = le 4 file w.position.cursor in
      asked (within_limit file) (in_range w.position) w.end _ (at_head _ (is_trailer tag (size_at file w)) (kind_of tag) refl)
