-- A chunk's tag, kind and header. Assumes nothing.
use Rattle.std.specs.Prelude.{ℕ, ◌+◌, cond, List, [], ◌∷◌, leb, eqb, length}
use Rattle.error.specs.Answer.{Answer, accepted, ask}
use Rattle.fields.specs.Capped.{u32_max}
use Rattle.fields.specs.Le.{le}
use Rattle.chunk.specs.declared.ChunkKind.{ChunkKind}
use Rattle.chunk.specs.declared.ChunkKind.TheVariants.{Video, Audio, Other}
use Rattle.chunk.specs.declared.ChunkHeader.{ChunkHeader}

-- 01: "tag `00dc` (stream 0) or `01wb` (stream 1)", as little-endian numbers; `Tags` spells them out
abbrev pub video_tag : ℕ
video_tag = 0x63643030

abbrev pub audio_tag : ℕ
audio_tag = 0x62773130

-- a stream's tag, of stream 0 or 1
abbrev pub stream_tag : ℕ → ℕ
stream_tag stream = cond (eqb stream 0) video_tag audio_tag

-- the trailer, `AMV_END_`
abbrev pub trailer_bytes : List ℕ
trailer_bytes = 0x41 ∷ 0x4d ∷ 0x56 ∷ 0x5f ∷ 0x45 ∷ 0x4e ∷ 0x44 ∷ 0x5f ∷ []

abbrev pub kind_of : ℕ → ChunkKind
kind_of tag = cond (eqb tag video_tag) Video (cond (eqb tag audio_tag) Audio (Other tag))

abbrev pub tag_of : ChunkKind → ℕ
tag_of Video = video_tag
tag_of Audio = audio_tag
tag_of (Other tag) = tag

-- the longest payload: a length is a u32
abbrev pub payload_limit : ℕ
payload_limit = u32_max

-- 01: "cursor moves 8 + length", from a chunk of a length to the next one
abbrev pub advance_total : ℕ → ℕ
advance_total size = 8 + size

-- 01: "`ChunkHeader::parse` 8? 29."
unfoldable pub chunk_header_of : List ℕ → Answer ChunkHeader
chunk_header_of s = ask (leb 8 (length s)) 29 0 (accepted (record { tag = le 4 s 0; size = le 4 s 4 }))

-- 02: tag and length "straight from the file", at an offset of it; "29 included", where fewer than 8 bytes are left from there
unfoldable pub chunk_header_at : List ℕ → ℕ → Answer ChunkHeader
chunk_header_at file at = ask (leb (at + 8) (length file)) 29 0 (accepted (record { tag = le 4 file at; size = le 4 file (at + 4) }))
