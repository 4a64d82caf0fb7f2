-- 01's and 02's sentences about index and summary, a second time: by the bytes of a chunk that is cut, and by the records. Assumes nothing.
use Rattle.std.specs.Prelude.{◌≡◌, ℕ, suc, ◌+◌, ◌*◌, ◌≤◌, ◌<◌, min, Bool, cond, List, [], ◌∷◌, ◌++◌, eqb, leb, length, drop}
use Rattle.chunk.specs.Chunk.{video_tag, audio_tag, payload_limit}
use Rattle.error.specs.Answer.{accepted, and_then}
use Rattle.error.specs.Sentences.{GivesBack, RefusedBy}
use Rattle.fields.specs.Le.{le}
use Rattle.demuxer.specs.Sentences.{headed}
use Rattle.demuxer.specs.declared.position.Position.{Position}
use Rattle.chunk_index.specs.Entry.{entry_len}
use Rattle.chunk_index.specs.Index.{records, index_of, build_of}
use Rattle.chunk_index.specs.Summary.{summary_of}
use Rattle.walk.specs.Walk.{walk}
use Rattle.chunk_index.specs.declared.entry.ChunkIndexEntry.{ChunkIndexEntry}
use Rattle.chunk_index.specs.declared.summary.ChunkCounts.{ChunkCounts}

-- how many records have a tag
unfoldable pub tagged : ℕ → List ChunkIndexEntry → ℕ
tagged tag [] = 0
tagged tag (e ∷ es) = cond (eqb e.tag tag) (suc (tagged tag es)) (tagged tag es)

-- 01: "frames and blocks as counts of the records"
abbrev pub record_counts : List ChunkIndexEntry → ChunkCounts
record_counts es = record { frames = tagged video_tag es; blocks = tagged audio_tag es }

-- whether the file has all of a record's chunk: its tag, its length, and as many bytes as that says
abbrev pub whole_in : List ℕ → ChunkIndexEntry → Bool
whole_in file e = leb (e.position.cursor + 8 + le 4 file (e.position.cursor + 4)) (length file)

-- the records of chunks that are whole
unfoldable pub whole_ones : List ℕ → List ChunkIndexEntry → List ChunkIndexEntry
whole_ones file [] = []
whole_ones file (e ∷ es) = cond (whole_in file e) (e ∷ whole_ones file es) (whole_ones file es)

-- 1 where the last record's chunk is cut, else 0
unfoldable pub last_cut : List ℕ → List ChunkIndexEntry → ℕ
last_cut file [] = 0
last_cut file (e ∷ []) = cond (whole_in file e) 0 1
last_cut file (e ∷ (f ∷ es)) = last_cut file (f ∷ es)

-- the file ends in a chunk at a position: its tag and length, and a part of its payload
pub record EndsIn (file : List ℕ) (p : Position) (tag size : ℕ) (part : List ℕ) : Type 0 where
  pub before : List ℕ
  pub cursor : p.cursor ≡ length before
  pub is : file ≡ before ++ headed tag size part
  pub held : size ≤ payload_limit
  pub cut : length part < size

pub record IndexSentences : Type 0 where
  -- "A frame is recorded though its body is cut;"
  pub cut_frame : (file part : List ℕ) (p : Position) (size : ℕ) → EndsIn file p video_tag size part
      → records p (walk file p.cursor) ≡ record { tag = video_tag; position = p } ∷ []
  -- "sound only if min(8, length) payload bytes are there."
  pub cut_sound : (file part : List ℕ) (p : Position) (size : ℕ) → EndsIn file p audio_tag size part → min 8 size ≤ length part
      → records p (walk file p.cursor) ≡ record { tag = audio_tag; position = p } ∷ []
  pub lost_sound : (file part : List ℕ) (p : Position) (size : ℕ) → EndsIn file p audio_tag size part → length part < min 8 size
      → records p (walk file p.cursor) ≡ []
  -- 02, M-103: "The summary shall count exactly the chunks of its walk whose payload is whole"; 01: "10, then 31, as there"
  pub summary_counts : (file : List ℕ) → summary_of file ≡ and_then (index_of file) (λ es. accepted (record_counts (whole_ones file es)))
  -- so the index has at most one record more than the summary counts: one where its last record's payload is cut, else none
  pub one_more : (file : List ℕ) (es : List ChunkIndexEntry) → index_of file ≡ accepted es
      → (s : ChunkCounts) × ((summary_of file ≡ accepted s) × (length es ≡ s.frames + s.blocks + last_cut file es))
  -- "The answer is their count; bytes after them stay."
  pub count : (file table : List ℕ) (n : ℕ) → (build_of file table).answer ≡ accepted n
      → (es : List ChunkIndexEntry) × (index_of file ≡ accepted es) × (n ≡ length es)
  pub after_stay : (file table : List ℕ) (n : ℕ) → (build_of file table).answer ≡ accepted n
      → drop (entry_len * n) (build_of file table).table ≡ drop (entry_len * n) table
  -- a refusal gives the table back; the numbers are 10, 31 and, for the table, 40
  pub gives_back : (file : List ℕ) → GivesBack (λ table. (build_of file table).answer) (λ table. (build_of file table).table)
  pub numbers : (file table : List ℕ) → RefusedBy (10 ∷ 31 ∷ 40 ∷ []) (build_of file table).answer
  pub summary_numbers : (file : List ℕ) → RefusedBy (10 ∷ 31 ∷ []) (summary_of file)
