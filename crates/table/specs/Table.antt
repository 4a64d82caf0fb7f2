-- What every call that reads a table of records asks of it. Documents 01, the indexed seek, and 02, M-100. Assumes nothing.
use Rattle.std.specs.Prelude.{ℕ, ◌+◌, ◌%◌, Bool, ◌&&◌, ◌||◌, List, [], ◌∷◌, ltb, eqb, length}
use Rattle.error.specs.Answer.{Answer, accepted, ask, and_then}
use Rattle.chunk.specs.Chunk.{video_tag, audio_tag}
use Rattle.demuxer.specs.Position.{count_limit}
use Rattle.chunk_index.specs.Entry.{entry_len, entries_of}
use Rattle.chunk_index.specs.declared.entry.ChunkIndexEntry.{ChunkIndexEntry}

-- a question of each record in turn; for no, "place of the record's start"
unfoldable pub ask_each : (ChunkIndexEntry → Bool) → ℕ → ℕ → List ChunkIndexEntry → Answer Unit
ask_each test number place [] = accepted tt
ask_each test number place (e ∷ es) = ask (test e) number place (ask_each test number (place + entry_len) es)

-- 01: "whole 24s? 41."
abbrev pub whole_records : List ℕ → Answer Unit
whole_records table = ask (eqb (length table % entry_len) 0) 41 0 (accepted tt)

-- "Tags known and samples below 2^62?"
abbrev pub good_entry : ChunkIndexEntry → Bool
good_entry e = (eqb e.tag video_tag || eqb e.tag audio_tag) && ltb e.position.samples.0 count_limit

-- "43, place of the record's start"
abbrev pub good_entries : List ChunkIndexEntry → Answer Unit
good_entries es = ask_each good_entry 43 0 es

-- the one after the other
abbrev pub table_questions : List ℕ → Answer Unit
table_questions table = and_then (whole_records table) (λ _. good_entries (entries_of table))
