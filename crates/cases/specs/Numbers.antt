-- A case for every number of document 01, from its text, with the smallest input; and a recording that tells the totals apart. Assumes nothing.
use Rattle.std.specs.Prelude.{◌≡◌, Bool, true, false, List, [], ◌∷◌, ◌++◌, ℕ, ◌+◌, ◌-◌, ◌^◌, pos, length, take, replicate}
use Rattle.std.specs.Prelude.{Option, Some, None}
use Rattle.error.specs.Answer.{Answer, accepted, refused, numbered}
use Rattle.fields.specs.Le.{put}
use Rattle.chunk.specs.Chunk.{video_tag, audio_tag, trailer_bytes, chunk_header_of}
use Rattle.chunk.specs.Interleave.{interleave}
use Rattle.parse.specs.Header.{header_of, header_fields}
use Rattle.parse.specs.Preamble.{preamble_of, preamble_sentinels}
use Rattle.prelude.specs.Built.{prelude_bytes}
use Rattle.prelude.specs.Prelude.{parse_of, strict_of}
use Rattle.prelude.specs.declared.prelude.AmvPrelude.{AmvPrelude}
use Rattle.demuxer.specs.Read.{ReadAnswer, End, fresh, read_of}
use Rattle.demuxer.specs.Read as read
use Rattle.demuxer.specs.declared.walker.Walker.{Walker}
use Rattle.walk.specs.Chunks.{Chunk, chunk_of, chunks_bytes}
use Rattle.chunk_index.specs.Entry.{entry_bytes}
use Rattle.chunk_index.specs.Index.{index_of, build_of}
use Rattle.chunk_index.specs.Summary.{summary_of}
use Rattle.walk.specs.declared.Kind.TheVariants.{Frame, Sound}
use Rattle.seek.specs.Seek.{seek_of}
use Rattle.muxer.specs.Writer.{header_call, packet_call, trailer_call}
use Rattle.muxer.specs.declared.Writer.{Writer}
use Rattle.finished.specs.Check.{check_of}
use Rattle.cases.specs.Cases.{position, first_record, second_record}
use Rattle.cases.specs.Example.{E}

abbrev pub no : {A : Type 0} → ℕ → ℕ → Answer A
no number place = refused (numbered number place)

-- E's prelude, the same with other bytes at a place, and with bytes after it
unfoldable pub P : List ℕ
P = prelude_bytes 8 8 12 0 8000 1

abbrev pub damaged : ℕ → ℕ → Answer AmvPrelude
damaged place byte = strict_of (put P place (byte ∷ []))

abbrev pub then : List ℕ → List ℕ
then bytes = P ++ bytes

-- a walker with these four counts, ended or not
abbrev pub walker_at : ℕ → ℕ → ℕ → ℕ → Walker
walker_at cursor frames samples blocks = record { position = position cursor frames samples blocks; end = false; cut = false; trailer = None }

abbrev pub over : Walker
over = record { position = position 0 0 0 0; end = true; cut = false; trailer = None }

abbrev pub reads : List ℕ → Walker → ReadAnswer
reads file w = (read_of file w).answer

abbrev pub seeks : List ℕ → Walker → ℕ → Answer ℕ
seeks table w stream = (seek_of table w stream (pos 0)).answer

-- a record's bytes
abbrev pub record_of : ℕ → ℕ → List ℕ
record_of tag samples = entry_bytes (record { tag = tag; position = position 316 0 samples 0 })

-- a writer with these marks and so many bytes written
abbrev pub writer_at : Bool → Bool → ℕ → Writer
writer_at begun ended written =
    record { settings = record { width = 8; height = 8; fps = 12; rate = 8000; channels = 1 }; begun = begun; ended = ended; written = written; frames = 0 }

abbrev pub heads : Writer → List ℕ → Answer Unit
heads w buf = (header_call w buf).answer

abbrev pub packs : Writer → List ℕ → ℕ → List ℕ → Answer Unit
packs w payload stream buf = (packet_call w payload stream buf).answer

abbrev pub ends : Writer → List ℕ → Answer Unit
ends w buf = (trailer_call w buf).answer

abbrev pub zeroed : ℕ → List ℕ
zeroed n = replicate n 0

-- two frames and a block of five samples, out of step: every total is another number
abbrev pub chunks_t : List Chunk
chunks_t = chunk_of Frame (1 ∷ []) ∷ chunk_of Frame (2 ∷ 3 ∷ []) ∷ chunk_of Sound (0 ∷ 0 ∷ 0 ∷ 0 ∷ 5 ∷ 0 ∷ 0 ∷ 0 ∷ []) ∷ []

unfoldable pub T : List ℕ
T = then (chunks_bytes chunks_t ++ trailer_bytes)

pub record Numbers : Type 0 where
  -- "File within the limit? 10": of every call that asks it, and of every file of one byte more than 4,294,967,295
  pub ten_parse : (file : List ℕ) → length file ≡ 4294967296 → parse_of file ≡ no 10 0
  pub ten_strict : (file : List ℕ) → length file ≡ 4294967296 → strict_of file ≡ no 10 0
  pub ten_read : (file : List ℕ) (w : Walker) → length file ≡ 4294967296 → reads file w ≡ read.refused (numbered 10 0)
  pub ten_index : (file : List ℕ) → length file ≡ 4294967296 → index_of file ≡ no 10 0
  pub ten_summary : (file : List ℕ) → length file ≡ 4294967296 → summary_of file ≡ no 10 0
  pub ten_check : (file : List ℕ) → length file ≡ 4294967296 → check_of file ≡ no 10 0
  pub ten_not : (file : List ℕ) → length file ≡ 4294967295 → reads file over ≡ End
  -- "does the file reach its end? 11. Tag equal? 12. Size equal? 13. Place: its start. Where a tag is present but its size is cut, .. 11"
  pub eleven : parse_of [] ≡ no 11 0
  pub eleven_size : parse_of (take 28 E) ≡ no 11 28
  pub eleven_last : parse_of (take 315 E) ≡ no 11 312
  pub twelve : parse_of (zeroed 4) ≡ no 12 0
  pub thirteen : parse_of (take 28 E ++ zeroed 4) ≡ no 13 28
  -- "fps above 0? 14. Is micros 1,000,000/fps? 15. Flag 1 (76)? 16. Zero at 80? 17."
  pub fourteen : strict_of (prelude_bytes 8 8 0 0 8000 1) ≡ no 14 72
  pub fifteen : damaged 32 0 ≡ no 15 32
  pub sixteen : damaged 76 0 ≡ no 16 76
  pub seventeen : damaged 80 1 ≡ no 17 80
  -- "Zero in 36..64, 108..164, 172..208, 228..276? 18": the ends of each stretch
  pub eighteen_36 : damaged 36 1 ≡ no 18 36
  pub eighteen_63 : damaged 63 1 ≡ no 18 63
  pub eighteen_108 : damaged 108 1 ≡ no 18 108
  pub eighteen_163 : damaged 163 1 ≡ no 18 163
  pub eighteen_172 : damaged 172 1 ≡ no 18 172
  pub eighteen_207 : damaged 207 1 ≡ no 18 207
  pub eighteen_228 : damaged 228 1 ≡ no 18 228
  pub eighteen_275 : damaged 275 1 ≡ no 18 275
  -- "Format 1? 19. One channel? 20. Average as written above? 21. Align 2? 22. Bits 16? 23. cbSize 0? 24."
  pub nineteen : damaged 284 2 ≡ no 19 284
  pub twenty : strict_of (prelude_bytes 8 8 12 0 8000 2) ≡ no 20 286
  pub twenty_one : damaged 292 0 ≡ no 21 292
  pub twenty_two : damaged 296 1 ≡ no 22 296
  pub twenty_three : damaged 298 8 ≡ no 23 298
  pub twenty_four : damaged 300 1 ≡ no 24 300
  -- "8? 25", "count above 0? 26", "56 bytes? 28", "8? 29" (27 is case 6)
  pub twenty_five : (body : List ℕ) → length body ≡ 7 → preamble_of body ≡ no 25 0
  pub twenty_six : preamble_sentinels (record { state = 0; decoded_sample_count = 0 }) ≡ no 26 0
  pub twenty_six_not : preamble_sentinels (record { state = 0; decoded_sample_count = 1 }) ≡ accepted tt
  pub twenty_eight : (body : List ℕ) → length body ≡ 55 → header_of body ≡ no 28 0
  pub twenty_eight_not : (body : List ℕ) → length body ≡ 56 → header_of body ≡ accepted (header_fields body)
  pub twenty_nine : (s : List ℕ) → length s ≡ 7 → chunk_header_of s ≡ no 29 0
  -- "Tag `00dc` or `01wb`? 31": a read's place is the cursor, of index, summary and check the chunk
  pub thirty_one_read : reads (then (zeroed 8)) fresh ≡ read.refused (numbered 31 316)
  pub thirty_one_index : index_of (then (zeroed 8)) ≡ no 31 316
  -- E with eight zeros where its trailer stood: its first 345 bytes have an index (chunk_index/Damaged)
  pub thirty_one_later : index_of (take 345 E ++ zeroed 8) ≡ no 31 345
  pub thirty_one_before : index_of (take 345 (take 345 E ++ zeroed 8)) ≡ accepted (first_record ∷ second_record ∷ [])
  pub thirty_one_summary : summary_of (then (zeroed 8)) ≡ no 31 316
  pub thirty_one_check : check_of (then (zeroed 8)) ≡ no 31 316
  -- "Cursor and three counters each from 0 to 2^62? 32"
  pub thirty_two_not : reads [] (walker_at (2 ^ 62) (2 ^ 62) (2 ^ 62) (2 ^ 62)) ≡ End
  pub thirty_two_cursor : reads [] (walker_at (2 ^ 62 + 1) 0 0 0) ≡ read.refused (numbered 32 0)
  pub thirty_two_frames : reads [] (walker_at 0 (2 ^ 62 + 1) 0 0) ≡ read.refused (numbered 32 0)
  pub thirty_two_samples : reads [] (walker_at 0 0 (2 ^ 62 + 1) 0) ≡ read.refused (numbered 32 0)
  pub thirty_two_blocks : reads [] (walker_at 0 0 0 (2 ^ 62 + 1)) ≡ read.refused (numbered 32 0)
  pub thirty_two_seek : seeks [] (walker_at (2 ^ 62 + 1) 0 0 0) 0 ≡ no 32 0
  -- "Table holds all records? 40, place 0, after the walk."
  pub forty : build_of E (zeroed 47) ≡ record { answer = no 40 0; table = zeroed 47 }
  pub forty_not : (build_of E (zeroed 48)).answer ≡ accepted 2
  pub forty_last : (build_of (then (zeroed 8)) []).answer ≡ no 31 316
  -- "whole 24s? 41. Stream 0 or 1? 42. Tags known and samples below 2^62? 43, place of the record's start." (their order: cases/Orders)
  pub forty_one : seeks (0 ∷ []) fresh 0 ≡ no 41 0
  pub forty_two : seeks [] fresh 2 ≡ no 42 0
  pub forty_three : seeks (zeroed 24) fresh 0 ≡ no 43 0
  pub forty_three_samples : seeks (record_of video_tag (2 ^ 62)) fresh 0 ≡ no 43 0
  pub forty_three_not : seeks (record_of audio_tag (2 ^ 62 - 1)) fresh 1 ≡ accepted (2 ^ 62 - 1)
  pub forty_three_second : seeks (record_of video_tag 0 ++ zeroed 24) fresh 0 ≡ no 43 24
  -- "Header: not begun? 50. Packet and trailer: begun? 51."
  pub fifty : heads (writer_at true false 316) [] ≡ no 50 316
  pub fifty_one_packet : packs (writer_at false false 5) [] 0 [] ≡ no 51 5
  pub fifty_one_trailer : ends (writer_at false false 5) [] ≡ no 51 5
  -- "Packet: payload at most 4,294,967,295? 52. Stream 0 or 1? 53."
  pub fifty_two : (payload buf : List ℕ) → length payload ≡ 4294967296 → packs (writer_at true false 316) payload 2 buf ≡ no 52 316
  pub fifty_two_not : (payload : List ℕ) → length payload ≡ 4294967295 → packs (writer_at true false 316) payload 0 [] ≡ no 54 316
  pub fifty_three : packs (writer_at true false 316) [] 2 [] ≡ no 53 316
  -- "Does what is to be written end at or before both the buffer's end and the file limit? 54."
  pub fifty_four_header : heads (writer_at false false 0) (zeroed 315) ≡ no 54 0
  pub fifty_four_header_not : heads (writer_at false false 0) (zeroed 316) ≡ accepted tt
  pub fifty_four_packet : packs (writer_at true false 316) [] 1 (zeroed 323) ≡ no 54 316
  pub fifty_four_packet_not : packs (writer_at true false 316) [] 1 (zeroed 324) ≡ accepted tt
  pub fifty_four_trailer : ends (writer_at true false 316) (zeroed 323) ≡ no 54 316
  pub fifty_four_trailer_not : ends (writer_at true false 316) (zeroed 324) ≡ accepted tt
  pub fifty_four_limit : (buf : List ℕ) → length buf ≡ 4294967296 → ends (writer_at true false 4294967288) buf ≡ no 54 4294967288
  pub fifty_four_limit_not : (buf : List ℕ) → length buf ≡ 4294967296 → ends (writer_at true false 4294967287) buf ≡ accepted tt
  -- "Not ended? 55 .. Begun implies at least 316 written? 56": of a header 55 where the state says ended and not begun
  pub fifty_five_header : heads (writer_at false true 5) [] ≡ no 55 5
  pub fifty_five_packet : packs (writer_at true true 5) [] 0 [] ≡ no 55 5
  pub fifty_five_trailer : ends (writer_at true true 5) [] ≡ no 55 5
  pub fifty_six_packet : packs (writer_at true false 315) [] 2 [] ≡ no 56 315
  pub fifty_six_trailer : ends (writer_at true false 315) [] ≡ no 56 315
  -- "per chunk, 8 bytes? 60. .. Payload whole? 60. Place: the chunk." (61 is case 10)
  pub sixty : check_of P ≡ no 60 316
  pub sixty_payload : check_of (take 344 E) ≡ no 60 327
  pub sixty_trailer : check_of (take 352 E) ≡ no 60 345
  -- "other 64", at any position (62, 63 and 65 are case 5)
  pub sixty_four : interleave (0 ∷ []) ≡ no 64 0
  pub sixty_four_odd : interleave (video_tag ∷ 0 ∷ []) ≡ no 64 1
  -- the totals, each in its place: frames 2, blocks 1, samples 5, the trailer's offset, not paired
  pub totals : check_of T ≡ accepted (record { frames = 2; blocks = 1; samples = 5; trailer = 351; paired = false })
  pub summary : summary_of T ≡ accepted (record { frames = 2; blocks = 1 })
  -- 02, M-103: a frame that is cut does not count; a chunk at whose last byte the file ends does
  pub summary_cut : summary_of (take 326 E) ≡ accepted (record { frames = 0; blocks = 0 })
  pub summary_last_frame : summary_of (take 327 E) ≡ accepted (record { frames = 1; blocks = 0 })
  pub summary_last_block : summary_of (take 345 E) ≡ accepted (record { frames = 1; blocks = 1 })
