-- Which question comes first where several are answered with no, and what a number stands for. Assumes nothing.
use Rattle.std.specs.Prelude.{◌≡◌, Bool, true, false, ◌&&◌, List, [], ◌∷◌, ◌++◌, ℕ, ◌+◌, ◌^◌, eqb, pos, length, take, drop}
use Rattle.std.specs.Prelude.{Option, Some, None}
use Rattle.error.specs.Answer.{Answer, accepted, numbered, number_of, place_of}
use Rattle.fields.specs.Le.{put}
use Rattle.duration.specs.Duration.{packed_of, unpacked_of, run_length}
use Rattle.duration.specs.OnlyAboveCap.{run_length_before, AboveCap}
use Rattle.chunk.specs.Chunk.{video_tag, chunk_header_of, chunk_header_at}
use Rattle.chunk.specs.Interleave.{interleave}
use Rattle.parse.specs.Preamble.{preamble_of}
use Rattle.prelude.specs.Prelude.{parse_of, strict_of}
use Rattle.prelude.specs.declared.prelude.AmvPrelude.{AmvPrelude}
use Rattle.demuxer.specs.Position.{InRange}
use Rattle.demuxer.specs.Read.{fresh}
use Rattle.demuxer.specs.Read as read
use Rattle.demuxer.specs.declared.walker.Walker.{Walker}
use Rattle.chunk_index.specs.Entry.{entries_of}
use Rattle.table.specs.Table.{good_entry}
use Rattle.table.specs.Sentences.{FirstNo, Good}
use Rattle.seek.specs.StreamFirst.{seek_before, BothWrong}
use Rattle.muxer.specs.Writer.{trailer_call}
use Rattle.muxer.specs.declared.Writer.{Writer}
use Rattle.finished.specs.Check.{check_of}
use Rattle.cases.specs.Cases.{position, own_index}
use Rattle.cases.specs.Numbers.{no, P, then, zeroed, walker_at, reads, seeks, record_of, writer_at, heads, packs, ends}

-- a byte of the prelude made wrong, and the question that says no to it
pub record Spoilt : Type 0 where
  pub number : ℕ
  pub place : ℕ
  pub byte : ℕ

abbrev pub spoilt : ℕ → ℕ → ℕ → Spoilt
spoilt number place byte = record { number = number; place = place; byte = byte }

-- the prelude with all of these
unfoldable pub spoiling : List Spoilt → List ℕ
spoiling [] = P
spoiling (s ∷ ss) = put (spoiling ss) s.place (s.byte ∷ [])

-- of these and all after them, each is asked first
unfoldable pub each_first : (List ℕ → Answer AmvPrelude) → List Spoilt → Bool
each_first parse [] = true
each_first parse (s ∷ ss) =
    let answer = parse (spoiling (s ∷ ss)) in
    eqb (number_of answer) s.number && eqb (place_of answer) s.place && each_first parse ss

-- "the 15 tags and 5 sizes above in offset order"
abbrev pub items : List Spoilt
items =
    spoilt 12 0 1 ∷ spoilt 12 8 1 ∷ spoilt 12 12 1 ∷ spoilt 12 20 1 ∷ spoilt 12 24 1 ∷ spoilt 13 28 1
    ∷ spoilt 12 88 1 ∷ spoilt 12 96 1 ∷ spoilt 12 100 1 ∷ spoilt 13 104 1 ∷ spoilt 12 164 1 ∷ spoilt 13 168 1
    ∷ spoilt 12 208 1 ∷ spoilt 12 216 1 ∷ spoilt 12 220 1 ∷ spoilt 13 224 1 ∷ spoilt 12 276 1 ∷ spoilt 13 280 1
    ∷ spoilt 12 304 1 ∷ spoilt 12 312 1 ∷ []

-- "`parse_strict` goes on": 14 to 17, 18 at the first nonzero, 19 to 24
abbrev pub sentinels : List Spoilt
sentinels =
    spoilt 14 72 0 ∷ spoilt 15 32 0 ∷ spoilt 16 76 0 ∷ spoilt 17 80 1
    ∷ spoilt 18 36 1 ∷ spoilt 18 37 1 ∷ spoilt 18 63 1 ∷ spoilt 18 108 1 ∷ spoilt 18 163 1 ∷ spoilt 18 172 1 ∷ spoilt 18 207 1
    ∷ spoilt 18 228 1 ∷ spoilt 18 275 1
    ∷ spoilt 19 284 2 ∷ spoilt 20 286 2 ∷ spoilt 21 292 0 ∷ spoilt 22 296 1 ∷ spoilt 23 298 8 ∷ spoilt 24 300 1 ∷ []

-- the prelude cut a byte short of each of these places' first four is 11 there
unfoldable pub each_cut : List ℕ → Bool
each_cut [] = true
each_cut (p ∷ ps) = eqb (number_of (parse_of (take (p + 3) P))) 11 && eqb (place_of (parse_of (take (p + 3) P))) p && each_cut ps

-- a writer of E's settings that has begun, and has counted so many frames at 12 a second
abbrev pub of_frames : ℕ → Writer
of_frames frames = record { settings = (writer_at true false 316).settings; begun = true; ended = false; written = 316; frames = frames }

-- a walker that is out of range
abbrev pub farther : Walker
farther = walker_at (2 ^ 62 + 1) 0 0 0

pub record Orders : Type 0 where
  pub parsed : each_first parse_of items ≡ true
  pub strict : each_first strict_of (items ++ sentinels) ≡ true
  -- tags, sizes and "the bodies 32..88 (after its size) and 284..304 (after theirs) in turn"
  pub cut :
      each_cut
      (0 ∷ 8 ∷ 12 ∷ 20 ∷ 24 ∷ 28 ∷ 32 ∷ 88 ∷ 96 ∷ 100 ∷ 104 ∷ 164 ∷ 168 ∷ 208 ∷ 216 ∷ 220 ∷ 224 ∷ 276 ∷ 280 ∷ 284 ∷ 304 ∷ 312 ∷ [])
      ≡ true
  -- a read: 32 before "Ended"; the check: 10 to 24 before the chunks
  pub ended_late : reads [] (record { position = position (2 ^ 62 + 1) 0 0 0; end = true; cut = false; trailer = None }) ≡ read.refused (numbered 32 0)
  pub check_prelude : check_of (put (then (zeroed 8)) 76 (0 ∷ [])) ≡ no 16 76
  -- a seek, by 02 (M-104): 42, then 41, then 43, then 32
  pub stream_first_lem : seeks (zeroed 25) farther 2 ≡ no 42 0
  pub length_second : seeks (zeroed 25) farther 1 ≡ no 41 0
  pub records_third : seeks (zeroed 24) farther 1 ≡ no 43 0
  pub walker_last : seeks own_index farther 1 ≡ no 32 0
  -- "from 41 to 42", where a byte is the table: the smallest input of what changed, with its answers by 01 and by 02
  pub stream_before : (seek_before (0 ∷ []) fresh 2 (pos 0)).answer ≡ no 41 0
  pub stream_now : seeks (0 ∷ []) fresh 2 ≡ no 42 0
  -- the conditions of seek/StreamFirst: of both wrong, and of either one alone
  pub both_wrong : BothWrong (0 ∷ []) 2
  pub stream_alone : BothWrong [] 2 → ⊥
  pub table_alone : BothWrong (0 ∷ []) 1 → ⊥
  -- and those of seek/Sentences: a table whose first bad record is its second, and one without; a walker in range, and one out of it
  pub second_bad : FirstNo good_entry (entries_of (record_of video_tag 0 ++ zeroed 24)) 24
  pub none_bad : Good own_index
  pub fresh_near : InRange fresh.position
  pub farther_not : InRange farther.position → ⊥
  -- the writer: 50 and 51, then 55, then 56, then 52, 53, 54
  pub fifty_first : heads (writer_at true true 5) [] ≡ no 50 5
  pub fifty_one_packet : packs (writer_at false true 5) [] 2 [] ≡ no 51 5
  pub fifty_one_trailer : ends (writer_at false true 5) [] ≡ no 51 5
  pub fifty_five_packet : packs (writer_at true true 5) [] 2 [] ≡ no 55 5
  pub fifty_five_trailer : ends (writer_at true true 5) [] ≡ no 55 5
  pub fifty_six : (payload : List ℕ) → length payload ≡ 4294967296 → packs (writer_at true false 315) payload 2 [] ≡ no 56 315
  -- the interleave check: by position, "then even count"
  pub count_last : interleave (video_tag ∷ video_tag ∷ video_tag ∷ []) ≡ no 62 1
  -- a chunk header is tag, then length
  pub header : chunk_header_of (1 ∷ 0 ∷ 0 ∷ 0 ∷ 2 ∷ 0 ∷ 0 ∷ 0 ∷ []) ≡ accepted (record { tag = 1; size = 2 })
  -- 02: at an offset of a file, the header of the bytes from there; 8 are left at 1, and 7 at 2
  pub header_at : chunk_header_at (9 ∷ 1 ∷ 0 ∷ 0 ∷ 0 ∷ 2 ∷ 0 ∷ 0 ∷ 0 ∷ []) 1 ≡ accepted (record { tag = 1; size = 2 })
  pub header_at_short : chunk_header_at (9 ∷ 1 ∷ 0 ∷ 0 ∷ 0 ∷ 2 ∷ 0 ∷ 0 ∷ 0 ∷ []) 2 ≡ no 29 0
  -- a preamble is its state, then the count
  pub preamble : preamble_of (1 ∷ 0 ∷ 0 ∷ 0 ∷ 2 ∷ 0 ∷ 0 ∷ 0 ∷ []) ≡ accepted (record { state = 1; decoded_sample_count = 2 })
  -- "bytes seconds, minutes, hours, 0": an hour, two minutes and three seconds
  pub packed : packed_of (record { seconds = 3; minutes = 2; hours = 1 }) ≡ 3 + 0x0200 + 0x010000
  pub unpacked : unpacked_of (3 + 0x0200 + 0x010000) ≡ record { seconds = 3; minutes = 2; hours = 1 }
  pub run_length_lem : run_length 44676 12 ≡ record { seconds = 3; minutes = 2; hours = 1 }
  pub no_fps : run_length 44676 0 ≡ record { seconds = 0; minutes = 0; hours = 0 }
  -- 02, M-105: the second before the cap, and the cap, which is the Rust's too; in a trailer "seconds, minutes, hours, 0"
  pub before_cap : run_length 921598 1 ≡ record { seconds = 58; minutes = 59; hours = 255 }
  pub at_cap : run_length 921599 1 ≡ record { seconds = 59; minutes = 59; hours = 255 }
  pub trailer_cap : take 4 (drop 84 (trailer_call (of_frames 11059200) (zeroed 324)).buffer) ≡ 59 ∷ 59 ∷ 255 ∷ 0 ∷ []
  -- 01's rule far above it, as the Rust has it
  pub far_before : run_length_before 1000000000000 1 ≡ record { seconds = 40; minutes = 255; hours = 255 }
  -- the condition of duration/OnlyAboveCap: of the smallest frame count, and neither of one less nor without a rate
  pub above_cap : AboveCap 921600 1
  pub up_to_cap : AboveCap 921599 1 → ⊥
  pub no_rate : AboveCap 921600 0 → ⊥
