-- Document 01's ten cases, "proved as one group", and what 02 says of them. Assumes nothing.
use Rattle.std.specs.Prelude.{◌≡◌, true, false, List, [], ◌∷◌, ◌++◌, ℕ, pos, negsuc, length, take}
use Rattle.std.specs.Prelude.{Option, Some, None}
use Rattle.error.specs.Answer.{accepted, refused, numbered}
use Rattle.duration.specs.Duration.{packed_of, run_length}
use Rattle.duration.specs.OnlyAboveCap.{run_length_before}
use Rattle.chunk.specs.Chunk.{video_tag, audio_tag}
use Rattle.chunk.specs.Interleave.{interleave}
use Rattle.parse.specs.Header.{header_sentinels}
use Rattle.parse.specs.WaveFormat.{wave_format_of, wave_format_fields, wave_format_sentinels}
use Rattle.parse.specs.declared.header.AmvHeader.{AmvHeader}
use Rattle.parse.specs.declared.wave_format.AmvWaveFormat.{AmvWaveFormat}
use Rattle.demuxer.specs.Read.{ReadAnswer, packet, End, fresh, read_of}
use Rattle.demuxer.specs.declared.position.Position.{Position}
use Rattle.chunk_index.specs.Entry.{table_bytes}
use Rattle.chunk_index.specs.Index.{index_of}
use Rattle.chunk_index.specs.Summary.{summary_of}
use Rattle.chunk_index.specs.declared.entry.ChunkIndexEntry.{ChunkIndexEntry}
use Rattle.seek.specs.Seek.{seek_of}
use Rattle.finished.specs.Check.{check_of}
use Rattle.cases.specs.Example.{E}

-- a header that differs from a device's only in these two
abbrev pub timed : ℕ → ℕ → AmvHeader
timed fps micros =
    record {
      micros_per_frame = micros;
      width = 8;
      height = 8;
      fps = fps;
      flag_one = 1;
      reserved_30 = 0;
      duration_packed = 0;
    }

-- and a wave format
abbrev pub sampled : ℕ → ℕ → AmvWaveFormat
sampled rate average =
    record {
      format_tag = 1;
      channels = 1;
      samples_per_sec = rate;
      avg_bytes_per_sec = average;
      block_align = 2;
      bits_per_sample = 16;
      cb_size = 0;
    }

-- a position by its four numbers
abbrev pub position : ℕ → ℕ → ℕ → ℕ → Position
position cursor frames samples blocks =
    record { cursor = cursor; frames = record { 0 = frames }; samples = record { 0 = samples }; blocks = record { 0 = blocks } }

-- the two records of E, and its own index
abbrev pub first_record : ChunkIndexEntry
first_record = record { tag = video_tag; position = position 316 0 0 0 }

abbrev pub second_record : ChunkIndexEntry
second_record = record { tag = audio_tag; position = position 327 1 0 0 }

abbrev pub own_index : List ℕ
own_index = table_bytes (first_record ∷ second_record ∷ [])

-- the first n bytes of E: what a first read gives, and a second
abbrev pub first_read : ℕ → ReadAnswer
first_read n = (read_of (take n E) fresh).answer

abbrev pub second_read : ℕ → ReadAnswer
second_read n = (read_of (take n E) (read_of (take n E) fresh).walker).answer

pub record Cases : Type 0 where
  -- (1) 1116 frames at 12: packed 289
  pub one : packed_of (run_length 1116 12) ≡ 289
  -- (2) 921,600 at 1: by 01 255 h, 60 min, 0 s; 02, M-105: "Case (2) now gives" 255 h, 59 min, 59 s
  pub two_before : run_length_before 921600 1 ≡ record { seconds = 0; minutes = 60; hours = 255 }
  pub two : run_length 921600 1 ≡ record { seconds = 59; minutes = 59; hours = 255 }
  -- (3) fps 1,000,000 needs micros 1; 1,000,001 needs 0, and 1 gives 15
  pub three_million : header_sentinels (timed 1000000 1) ≡ accepted tt
  pub three_needs_one : (micros : ℕ) → (micros ≡ 1 → ⊥) → header_sentinels (timed 1000000 micros) ≡ refused (numbered 15 32)
  pub three_more : header_sentinels (timed 1000001 0) ≡ accepted tt
  pub three_needs_none : (micros : ℕ) → (micros ≡ 0 → ⊥) → header_sentinels (timed 1000001 micros) ≡ refused (numbered 15 32)
  pub three_refused : header_sentinels (timed 1000001 1) ≡ refused (numbered 15 32)
  -- (4) rate 2,147,483,648 needs average 4,294,967,295
  pub four : wave_format_sentinels (sampled 2147483648 4294967295) ≡ accepted tt
  pub four_needs : (average : ℕ) → (average ≡ 4294967295 → ⊥) → wave_format_sentinels (sampled 2147483648 average) ≡ refused (numbered 21 292)
  -- (5) tags none: passes; V: 65; V A passes; A: 63; V V: 62
  pub five_none : interleave [] ≡ accepted tt
  pub five_v : interleave (video_tag ∷ []) ≡ refused (numbered 65 1)
  pub five_va : interleave (video_tag ∷ audio_tag ∷ []) ≡ accepted tt
  pub five_a : interleave (audio_tag ∷ []) ≡ refused (numbered 63 0)
  pub five_vv : interleave (video_tag ∷ video_tag ∷ []) ≡ refused (numbered 62 1)
  -- (6) wave body 17: 27; 18: cbSize 0, whatever the bytes
  pub six_17 : (body : List ℕ) → length body ≡ 17 → wave_format_of body ≡ refused (numbered 27 0)
  pub six_18 : (body : List ℕ) → length body ≡ 18 → wave_format_of body ≡ accepted (wave_format_fields body)
  pub six_cb : (body : List ℕ) → length body ≡ 18 → (wave_format_fields body).cb_size ≡ 0
  -- E has 353 bytes, and an own index
  pub size : length E ≡ 353
  pub indexed : index_of E ≡ accepted (first_record ∷ second_record ∷ [])
  -- (7) E, sound seek to 1: end, cursor 335, frames 1, samples 0, blocks 1
  pub seven : (seek_of own_index fresh 1 (pos 1)).walker ≡ record { position = position 335 1 0 1; end = true; cut = false; trailer = None }
  -- "The stream's stamp is returned."
  pub seven_stamp : (seek_of own_index fresh 1 (pos 1)).answer ≡ accepted 0
  -- (8) E, frame seek to -5: cursor 316, stamp 0 returned
  pub eight_walker : (seek_of own_index fresh 0 (negsuc 4)).walker ≡ record { position = position 316 0 0 0; end = false; cut = false; trailer = None }
  pub eight_stamp : (seek_of own_index fresh 0 (negsuc 4)).answer ≡ accepted 0
  -- (9) E cut to 344: one packet, two records; to 343: two records; to 342: one
  pub nine_packet : first_read 344 ≡ packet (record { stream = 0; payload = 1 ∷ 2 ∷ 3 ∷ []; stamp = 0; duration = Some 1 })
  pub nine_end : second_read 344 ≡ End
  pub nine_344 : index_of (take 344 E) ≡ accepted (first_record ∷ second_record ∷ [])
  pub nine_343 : index_of (take 343 E) ≡ accepted (first_record ∷ second_record ∷ [])
  pub nine_342 : index_of (take 342 E) ≡ accepted (first_record ∷ [])
  -- 02, M-103: "on case (9) at 344 bytes the summary goes from 1 frame, 1 block to 1 frame, 0 blocks"; on E, which is finished, it stays
  pub nine_summary : summary_of (take 344 E) ≡ accepted (record { frames = 1; blocks = 0 })
  pub nine_whole : summary_of E ≡ accepted (record { frames = 1; blocks = 1 })
  -- (10) E plus a byte: 61 at 345; E itself passes, with the totals of its listing
  pub ten : (byte : ℕ) → check_of (E ++ (byte ∷ [])) ≡ refused (numbered 61 345)
  pub ten_passes : check_of E ≡ accepted (record { frames = 1; blocks = 1; samples = 2; trailer = 345; paired = true })
