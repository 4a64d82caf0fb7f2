-- What stands at an offset of a file. Assumes nothing.
use Rattle.std.specs.Prelude.{◌≡◌, ℕ, ◌+◌, Bool, cond, ◌&&◌, List, leb, eqb, length}
use Rattle.error.specs.Answer.{Answer, accepted, refused}
use Rattle.fields.specs.Le.{le}
use Rattle.chunk.specs.Chunk.{kind_of}
use Rattle.chunk.specs.declared.ChunkKind.{ChunkKind}
use Rattle.chunk.specs.declared.ChunkKind.TheVariants.{Video, Audio, Other}
use Rattle.parse.specs.Preamble.{preamble_of}
use Rattle.parse.specs.declared.preamble.AmvAudioPreamble.{AmvAudioPreamble}
use Rattle.demuxer.specs.declared.head.Head.{Head}
use Rattle.demuxer.specs.declared.head.Head.TheVariants as head

-- `AMV_END_` in two halves: the trailer's bytes as two numbers
abbrev pub trailer_tag : ℕ
trailer_tag = 0x5f564d41

abbrev pub trailer_size : ℕ
trailer_size = 0x5f444e45

-- "Tag `00dc` or `01wb`?", and the length after it
abbrev pub kind_head : ChunkKind → ℕ → Head
kind_head Video size = head.Video size
kind_head Audio size = head.Audio size
kind_head (Other tag) size = head.Unknown

abbrev pub chunk_head : ℕ → ℕ → Head
chunk_head tag size = kind_head (kind_of tag) size

abbrev pub is_trailer : ℕ → ℕ → Bool
is_trailer tag size = eqb tag trailer_tag && eqb size trailer_size

-- "fewer than 8 bytes at the cursor, or the trailer", or a tag and a u32 length
unfoldable pub head_at : List ℕ → ℕ → Head
head_at file at =
    let tag = le 4 file at in
    let size = le 4 file (at + 4) in
    cond (leb (at + 8) (length file)) (cond (is_trailer tag size) head.Trailer (chunk_head tag size)) head.Short

-- the count of a preamble, 0 where there is none
abbrev pub preamble_count : Answer AmvAudioPreamble → ℕ
preamble_count (accepted p) = p.decoded_sample_count
preamble_count (refused r) = 0

-- "the u32 at payload 4, or 0 under 8 bytes": as `AmvAudioPreamble::parse` reads it
unfoldable pub count_of : List ℕ → ℕ
count_of payload = preamble_count (preamble_of payload)

-- the same, written out
abbrev pub CountIs : Type 0
CountIs = (payload : List ℕ) → count_of payload ≡ cond (leb 8 (length payload)) (le 4 payload 4) 0
