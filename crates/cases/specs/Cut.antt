-- Document 02's supply drop, M-107, on document 01's small file: E cut to every length from 0 to 353, and what each call then says of it; and E while
-- it is written. recording/Cut claims it of every finished recording; here each number is written down, from the layout of E. Assumes nothing.
use Rattle.std.specs.Prelude.{◌≡◌, true, false, List, [], ◌∷◌, ◌++◌, map, ℕ, zero, suc, ◌-◌, take, replicate}
use Rattle.std.specs.Prelude.{Option, Some, None}
use Rattle.error.specs.Answer.{Answer, accepted}
use Rattle.prelude.specs.Prelude.{parse_of}
use Rattle.prelude.specs.declared.prelude.AmvPrelude.{AmvPrelude}
use Rattle.demuxer.specs.Packet.{Shown}
use Rattle.demuxer.specs.Read.{ReadAnswer, packet, End, refused, fresh, read_of}
use Rattle.demuxer.specs.declared.walker.Walker.{Walker}
use Rattle.chunk_index.specs.Index.{index_of}
use Rattle.chunk_index.specs.Summary.{summary_of}
use Rattle.chunk_index.specs.declared.entry.ChunkIndexEntry.{ChunkIndexEntry}
use Rattle.chunk_index.specs.declared.summary.ChunkCounts.{ChunkCounts}
use Rattle.finished.specs.Check.{check_of}
use Rattle.finished.specs.declared.Totals.{Totals}
use Rattle.muxer.specs.Writer as muxer
use Rattle.muxer.specs.declared.Settings.{Settings}
use Rattle.recording.specs.Cut.{UnderWay}
use Rattle.recording.specs.WriteLists as write
use Rattle.recording.specs.WriteLists.{WriteCall, written_file}
use Rattle.cases.specs.Cases.{timed, sampled, first_record, second_record}
use Rattle.cases.specs.Example.{E}
use Rattle.cases.specs.Numbers.{no, walker_at}
use Rattle.cases.specs.Registers.{marked, picture, sound}

-- ---- what the calls say

-- "draining": the answers of reads from a walker on, up to the first that is no packet, and the walker after it
pub record Drained : Type 0 where
  pub answers : List ReadAnswer
  pub walker : Walker

abbrev pub on_answer : (Walker → Drained) → Walker → ReadAnswer → Drained
on_answer rest w (packet p) = record { answers = packet p ∷ (rest w).answers; walker = (rest w).walker }
on_answer rest w End = record { answers = End ∷ []; walker = w }
on_answer rest w (refused r) = record { answers = refused r ∷ []; walker = w }

-- at most so many reads
unfoldable pub drain_for : ℕ → List ℕ → Walker → Drained
drain_for zero file w = record { answers = []; walker = w }
drain_for (suc n) file w = on_answer (drain_for n file) (read_of file w).walker (read_of file w).answer

pub record Told : Type 0 where
  pub parse : Answer AmvPrelude
  pub check : Answer Totals
  pub drained : Drained
  pub index : Answer (List ChunkIndexEntry)
  pub summary : Answer ChunkCounts

-- E has two packets: the third read answers End
unfoldable pub told : List ℕ → Told
told file =
    record { parse = parse_of file; check = check_of file; drained = drain_for 3 file fresh; index = index_of file; summary = summary_of file }

-- a file cut to a length, to one byte more, and so on: so many
unfoldable pub cuts : ℕ → ℕ → List ℕ → List (List ℕ)
cuts n zero file = []
cuts n (suc more) file = take n file ∷ cuts (suc n) more file

-- ---- what they should say

-- the parse and the check answer this; reads give these packets, then End with this walker, whose frames and blocks the summary has; the index has
-- these records
abbrev pub says : Answer AmvPrelude → Answer Totals → List Shown → Walker → List ChunkIndexEntry → Told
says parse check packets w records =
    record {
      parse = parse;
      check = check;
      drained = record { answers = map packet packets ++ (End ∷ []); walker = w };
      index = accepted records;
      summary = accepted (record { frames = w.position.frames.0; blocks = w.position.blocks.0 });
    }

-- "then End with cut set": at a cursor, with frames, samples and blocks
abbrev pub cut_at : ℕ → ℕ → ℕ → ℕ → Walker
cut_at cursor frames samples blocks = marked true true None (walker_at cursor frames samples blocks)

-- "the prelude reading refuses a file shorter than 316 with 11", here at a place; so does the check, and a first read answers End
abbrev pub shorter : ℕ → Told
shorter place = says (no 11 place) (no 11 place) [] (cut_at 316 0 0 0) []

-- the prelude of E
abbrev pub opened : Answer AmvPrelude
opened = accepted (record { header = timed 12 83333; audio_format = sampled 8000 16000; movi_payload_start = 316 })

-- "From 316 up to one byte less than the whole": the check is refused where the walker stands
abbrev pub stopped : ℕ → ℕ → ℕ → ℕ → List Shown → List ChunkIndexEntry → Told
stopped cursor frames samples blocks packets records = says opened (no 60 cursor) packets (cut_at cursor frames samples blocks) records

-- "At full length the trailer is found and cut stays clear."
abbrev pub whole : Told
whole =
    says opened (accepted (record { frames = 1; blocks = 1; samples = 2; trailer = 345; paired = true })) (picture ∷ sound ∷ [])
    (marked true false (Some 345) (walker_at 345 1 2 1)) (first_record ∷ second_record ∷ [])

-- rows from a length on: a row is for the lengths below its number, from the number of the row before it on
abbrev pub filled : ℕ → List (ℕ × Told) → List Told
filled n [] = []
filled n (row ∷ rows) = replicate (row.0 - n) row.1 ++ filled row.0 rows

-- ---- a recording under way

abbrev pub settings : Settings
settings = record { width = 8; height = 8; fps = 12; rate = 8000; channels = 1 }

-- the calls that write E, but for the trailer
abbrev pub calls : List WriteCall
calls = write.header ∷ write.packet (1 ∷ 2 ∷ 3 ∷ []) 0 ∷ write.packet (0 ∷ 0 ∷ 0 ∷ 0 ∷ 2 ∷ 0 ∷ 0 ∷ 0 ∷ 17 ∷ 34 ∷ []) 1 ∷ []

pub record Cut : Type 0 where
  -- a row for each of the 22 items of the prelude: it ends at the row's number, and starts at the place. What stands between two items, as the
  -- free size at 4, is asked of by none: a file that ends there is refused at the next item
  pub below_316 :
      map told (cuts 0 316 E)
      ≡ filled 0
      ((4, shorter 0) ∷ (12, shorter 8) ∷ (16, shorter 12) ∷ (24, shorter 20) ∷ (28, shorter 24) ∷ (32, shorter 28) ∷ (88, shorter 32)
      ∷ (92, shorter 88) ∷ (100, shorter 96) ∷ (104, shorter 100) ∷ (108, shorter 104) ∷ (168, shorter 164) ∷ (172, shorter 168)
      ∷ (212, shorter 208) ∷ (220, shorter 216) ∷ (224, shorter 220) ∷ (228, shorter 224) ∷ (280, shorter 276) ∷ (284, shorter 280)
      ∷ (304, shorter 284) ∷ (308, shorter 304) ∷ (316, shorter 312) ∷ [])
  -- "draining gives exactly the packets whose chunk ends within the cut, equal to the first ones of the full drain, then End with cut set". The
  -- picture's chunk, 8 + 3 bytes at 316: a record once 8 are there, read once all are. The sound's, 8 + 10 at 327: a record once 8 + 8 are there,
  -- read once all are. The trailer, 8 at 345: found once all are there
  pub from_316 :
      map told (cuts 316 38 E)
      ≡ filled 316
      ((324, stopped 316 0 0 0 [] [])
      ∷ (327, stopped 316 0 0 0 [] (first_record ∷ []))
      ∷ (343, stopped 327 1 0 0 (picture ∷ []) (first_record ∷ []))
      ∷ (345, stopped 327 1 0 0 (picture ∷ []) (first_record ∷ second_record ∷ []))
      ∷ (353, stopped 345 1 2 1 (picture ∷ sound ∷ []) (first_record ∷ second_record ∷ []))
      ∷ (354, whole) ∷ [])
  -- The supply drops before the trailer is written: the calls meet the condition of what recording/Cut says of such a recording, and leave E but for
  -- its trailer. One byte fewer in the buffer, and the sound is refused
  pub under_way : UnderWay settings (replicate 345 0) calls
  pub leaves : written_file (muxer.fresh settings) (replicate 345 0) calls ≡ take 345 E
  pub leaves_less : written_file (muxer.fresh settings) (replicate 344 0) calls ≡ take 327 E
