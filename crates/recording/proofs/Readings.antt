-- One read, by the header that stands at the cursor. Assumes nothing.
use mathlib.Core.Path.{◌≡◌}
use mathlib.Core.List.{List}
use Prim.Native.Nat.{ℕ, ◌+◌, ◌≤◌, ◌<◌}
use borrow.Author.Tests.{le-leb, lt-leb}
use lib.ListN.{length}
use Rattle.demuxer.specs.Head.{count_of}
use Rattle.demuxer.specs.Read.{packet, End, cut_off, advanced, payload_at, read_frame, read_sound, read_head}
use Rattle.demuxer.specs.declared.walker.Walker.{Walker}
use Rattle.walk.specs.declared.Kind.{Kind}
use Rattle.walk.specs.declared.Kind.TheVariants.{Frame, Sound}
use Rattle.walk.specs.Walk.{past_by}
use Rattle.walk.proofs.Chunked.{head_of}
use Rattle.recording.proofs.Positions.{shown_at}

-- the header of a kind, where the payload is whole and where it is cut
module _ (file : List ℕ) (w : Walker) (size : ℕ) where
  pub read_whole : (kind : Kind) → w.position.cursor + 8 + size ≤ length file
      → read_head file w (head_of kind size)
      ≡ record {
        answer = packet (shown_at w.position kind (payload_at file w.position.cursor size));
        walker = advanced w (past_by w.position kind size (count_of (payload_at file w.position.cursor size)));
      }
  unfolding read_frame read_sound
  read_whole Frame l = rw (le-leb (w.position.cursor + 8 + size) (length file) l)
  read_whole Sound l = rw (le-leb (w.position.cursor + 8 + size) (length file) l)

  pub read-cut : (kind : Kind) → length file < w.position.cursor + 8 + size
      → read_head file w (head_of kind size) ≡ record { answer = End; walker = cut_off w }
  unfolding read_frame read_sound
  read-cut Frame l = rw (lt-leb (w.position.cursor + 8 + size) (length file) l)
  read-cut Sound l = rw (lt-leb (w.position.cursor + 8 + size) (length file) l)
