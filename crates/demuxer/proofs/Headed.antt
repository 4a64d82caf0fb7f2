-- The bytes of a header that was taken for something: its tag and its length, where they stand. By the questions in turn. Assumes nothing.
use mathlib.Core.Path.{◌≡◌, refl}
use mathlib.Core.Bool.{Bool, true, false, cond}
use mathlib.Core.List.{List}
use Prim.Native.Nat.{ℕ, ◌+◌, ◌≤◌}
use borrow.Author.Tests.{leb-true, eqb-true}
use lib.Dec.{leb, eqb}
use lib.ListN.{length}
use Rattle.chunk.specs.Chunk.{video_tag, audio_tag, kind_of}
use Rattle.chunk.specs.declared.ChunkKind.{ChunkKind}
use Rattle.chunk.specs.declared.ChunkKind.TheVariants.{Video, Audio, Other}
use Rattle.chunk.proofs.Chunks.{kind_video, kind_audio}
use Rattle.error.proofs.Answers.{both}
use Rattle.fields.specs.Le.{le}
use Rattle.demuxer.specs.Head.{trailer_tag, trailer_size, is_trailer, kind_head, chunk_head, head_at}
use Rattle.demuxer.specs.declared.head.Head.{Head}
use Rattle.demuxer.specs.declared.head.Head.TheVariants as head

-- the header that was read, as it stands in the file
pub record Headed (file : List ℕ) (at tag size : ℕ) : Type 0 where
  pub there : at + 8 ≤ length file
  pub tag_is : le 4 file at ≡ tag
  pub size_is : le 4 file (at + 4) ≡ size

-- by what the header is taken for
unfoldable pub Heads : List ℕ → ℕ → Head → Type 0
Heads file at head.Short = Unit
Heads file at head.Trailer = Headed file at trailer_tag trailer_size
Heads file at head.Unknown = Unit
Heads file at (head.Video size) = Headed file at video_tag size
Heads file at (head.Audio size) = Headed file at audio_tag size

pub headed : (file : List ℕ) (at : ℕ) → Heads file at (head_at file at)
unfolding head_at Heads
headed file at = on _ refl
  where
    kinds : at + 8 ≤ length file → (k : ChunkKind) → kind_of (le 4 file at) ≡ k → Heads file at (kind_head k (le 4 file (at + 4)))
    kinds h Video e = record { there = h; tag_is = kind_video (le 4 file at) e; size_is = refl }
    kinds h Audio e = record { there = h; tag_is = kind_audio (le 4 file at) e; size_is = refl }
    kinds h (Other tag) e = tt

    ends : at + 8 ≤ length file → (b : Bool) → is_trailer (le 4 file at) (le 4 file (at + 4)) ≡ b
        → Heads file at (cond b head.Trailer (chunk_head (le 4 file at) (le 4 file (at + 4))))
    ends h true e =
        let p = both (eqb (le 4 file at) trailer_tag) (eqb (le 4 file (at + 4)) trailer_size) e in
        record { there = h; tag_is = eqb-true (le 4 file at) trailer_tag p.0; size_is = eqb-true (le 4 file (at + 4)) trailer_size p.1 }
    ends h false e = kinds h (kind_of (le 4 file at)) refl

    on : (b : Bool) → leb (at + 8) (length file) ≡ b
        → Heads file at (cond b (cond (is_trailer (le 4 file at) (le 4 file (at + 4))) head.Trailer (chunk_head (le 4 file at) (le 4 file (at + 4)))) head.Short)
    on true e = ends (leb-true (at + 8) (length file) e) _ refl
    on false e = tt
