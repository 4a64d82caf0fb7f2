-- The functions that a case may call. Nothing of document 01. Assumes nothing.
use Rattle.std.specs.Prelude.{◌≡◌, ℕ, nat_lt, if◌then◌else◌, List, codes}
use Rattle.vectors.specs.declared.function.Function.{Function}
use Rattle.vectors.specs.declared.function.Function.TheVariants.{Uncounted, Parse, NextPacket, BuildChunkIndex, WriteHeader, WritePacket, WriteTrailer, SeekToViaIndex, Interleave, FromFrameCount, Summary, Check, Listing, PrintIndex, DecodeBlock, ChunkHeader, RegisterStep}

-- the number in the first byte of a function's cases
abbrev pub number_of : Function → ℕ
number_of Uncounted = 0
number_of Parse = 1
number_of NextPacket = 2
number_of BuildChunkIndex = 3
number_of WriteHeader = 4
number_of WritePacket = 5
number_of WriteTrailer = 6
number_of SeekToViaIndex = 7
number_of Interleave = 8
number_of FromFrameCount = 9
number_of Summary = 10
number_of Check = 11
number_of Listing = 12
number_of PrintIndex = 13
number_of DecodeBlock = 14
number_of ChunkHeader = 15
number_of RegisterStep = 16

-- the function of a case's first byte: that of its number, and the first where no function has it
abbrev pub Names : ℕ → Function → Type 0
Names byte function = number_of function ≡ (if nat_lt byte 17 then byte else 1)

-- its name, as it is printed: a case that no count has is run as one of a packed run length
abbrev pub name_of : Function → List ℕ
name_of Uncounted = codes "from_frame_count"
name_of Parse = codes "parse"
name_of NextPacket = codes "next_packet"
name_of BuildChunkIndex = codes "build_chunk_index"
name_of WriteHeader = codes "write_header"
name_of WritePacket = codes "write_packet"
name_of WriteTrailer = codes "write_trailer"
name_of SeekToViaIndex = codes "seek_to_via_index"
name_of Interleave = codes "interleave"
name_of FromFrameCount = codes "from_frame_count"
name_of Summary = codes "summary"
name_of Check = codes "check"
name_of Listing = codes "listing"
name_of PrintIndex = codes "print_index"
name_of DecodeBlock = codes "decode_block"
name_of ChunkHeader = codes "chunk_header"
name_of RegisterStep = codes "register_step"
