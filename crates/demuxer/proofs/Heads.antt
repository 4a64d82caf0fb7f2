-- What stands at an offset is what the header that is read there is taken for; so it goes by that header's laws. Assumes nothing.
use mathlib.Core.Path.{◌≡◌, refl, sym, ap, ◌∙◌}
use mathlib.Core.Bool.{Bool, true, false, cond}
use mathlib.Core.List.{List}
use Prim.Native.Nat.{ℕ, ◌+◌, ◌≤◌, ◌<◌}
use lib.Dec.{leb}
use lib.ListN.{length}
use Rattle.error.specs.Answer.{Answer, accepted, refused, ask}
use Rattle.fields.specs.Le.{le}
use Rattle.chunk.specs.Chunk.{chunk_header_at}
use Rattle.chunk.specs.declared.ChunkHeader.{ChunkHeader}
use Rattle.chunk.proofs.Headers.{header_out, header-there}
use Rattle.demuxer.specs.Head.{is_trailer, chunk_head, head_at}
use Rattle.demuxer.specs.Steps.{from_header}
use Rattle.demuxer.specs.declared.head.Head.{Head}
use Rattle.demuxer.specs.declared.head.Head.TheVariants.{Short, Trailer}

-- what stands there is what the header that was read there is taken for
abbrev pub answered : Answer ChunkHeader → Head
answered (accepted h) = from_header h
answered (refused r) = Short

pub head_read : (file : List ℕ) (at : ℕ) {h : Answer ChunkHeader} → h ≡ chunk_header_at file at → answered h ≡ head_at file at
unfolding head_at chunk_header_at
head_read file at e = ap answered e ∙ by (leb (at + 8) (length file))
  where
    header : ChunkHeader
    header = record { tag = le 4 file at; size = le 4 file (at + 4) }

    by : (b : Bool) → answered (ask b 29 0 (accepted header)) ≡ cond b (from_header header) Short
    by true = refl
    by false = refl

-- past the end there is no header
pub head_out : (file : List ℕ) (at : ℕ) → length file < at + 8 → head_at file at ≡ Short
head_out file at h = sym (head_read file at (sym (header_out file at h)))

module _ (file : List ℕ) (at : ℕ) (h : at + 8 ≤ length file) {tag size : ℕ} (t : tag ≡ le 4 file at) (s : size ≡ le 4 file (at + 4)) where
  there : head_at file at ≡ from_header (record { tag = tag; size = size })
  there = sym (head_read file at (sym (header-there file at h t s)))

  pub head_trailer : is_trailer tag size ≡ true → head_at file at ≡ Trailer
  head_trailer e = there ∙ rw e

  pub head_chunk : is_trailer tag size ≡ false → head_at file at ≡ chunk_head tag size
  head_chunk e = there ∙ rw e
