-- The indexed seek. Assumes nothing.
use Rattle.std.specs.Prelude.{ℕ, ◌+◌, Bool, true, false, cond, ◌&&◌, List, [], ◌∷◌, leb, eqb, ℤ, pos}
use Rattle.std.specs.Prelude.{Option, Some, None}
use Rattle.std.specs.Int.Signed.{le_z}
use Rattle.chunk.specs.Chunk.{video_tag, audio_tag, stream_tag}
use Rattle.chunk_index.specs.Entry.{entries_of}
use Rattle.chunk_index.specs.declared.entry.ChunkIndexEntry.{ChunkIndexEntry}
use Rattle.demuxer.specs.Position.{in_range}
use Rattle.demuxer.specs.declared.position.Position.{Position}
use Rattle.demuxer.specs.declared.walker.Walker.{Walker}
use Rattle.error.specs.Answer.{Answer, accepted, refused, ask, and_then}
use Rattle.error.specs.Refusal.{said}
use Rattle.table.specs.Table.{table_questions}
use Rattle.seek.specs.declared.SeekOutcome.{SeekOutcome}

-- a stream's stamp at a position: frames for stream 0, samples for stream 1
abbrev pub stamp_of : ℕ → Position → ℕ
stamp_of stream p = cond (eqb stream 0) p.frames.0 p.samples.0

-- the questions of the seek. 02, M-104: "The stream question moves ahead": 42, then 01's others in their order: 41, 43 record by record, 32
unfoldable pub seek_questions : List ℕ → Walker → ℕ → Answer Unit
seek_questions table w stream =
    ask (leb stream 1) 42 0 (and_then (table_questions table) (λ _. ask (in_range w.position) 32 0 (accepted tt)))

-- "The first record of the stream whose stamp reaches the signed request"
abbrev pub reaches : ℕ → ℤ → ChunkIndexEntry → Bool
reaches stream request e = eqb e.tag (stream_tag stream) && le_z request (pos (stamp_of stream e.position))

unfoldable pub find : ℕ → ℤ → List ChunkIndexEntry → Option Position
find stream request [] = None
find stream request (e ∷ es) = cond (reaches stream request e) (Some e.position) (find stream request es)

-- "the cursor is the last one's offset + 8, frames and blocks step past it, samples stay those before it"
abbrev pub beyond : ChunkIndexEntry → Position
beyond e =
    let p = e.position in
    record {
      cursor = p.cursor + 8;
      frames = record { 0 = cond (eqb e.tag video_tag) (p.frames.0 + 1) p.frames.0 };
      samples = p.samples;
      blocks = record { 0 = cond (eqb e.tag audio_tag) (p.blocks.0 + 1) p.blocks.0 };
    }

-- "with records" past the last; "with none, counters and cursor stay"
unfoldable pub past_last : Position → List ChunkIndexEntry → Position
past_last p [] = p
past_last p (e ∷ es) = past_last (beyond e) es

-- what a seek answers (the stamp), and the walker after it
pub record Seeking : Type 0 where
  pub answer : Answer ℕ
  pub walker : Walker

-- at a position with or without the end mark; "Cut and trailer always stay."
abbrev pub moved_to : Walker → ℕ → Position → Bool → Seeking
moved_to w stream p end =
    record { answer = accepted (stamp_of stream p); walker = record { position = p; end = end; cut = w.cut; trailer = w.trailer } }

-- found: "sets cursor and counters, clears end, and its stamp is returned. None: end is set; .. The stream's stamp is returned."
abbrev pub landed : List ChunkIndexEntry → Walker → ℕ → Option Position → Seeking
landed es w stream (Some p) = moved_to w stream p false
landed es w stream None = moved_to w stream (past_last w.position es) true

abbrev pub sought_from : Answer Unit → Walker → Seeking → Seeking
sought_from (accepted u) w s = s
sought_from (refused r) w s = record { answer = refused r; walker = w }

-- 01's `seek_to_via_index`
unfoldable pub seek_of : List ℕ → Walker → ℕ → ℤ → Seeking
seek_of table w stream request =
    sought_from (seek_questions table w stream) w (landed (entries_of table) w stream (find stream request (entries_of table)))

-- the two parts of what the code returns
abbrev pub said_seek_outcome : SeekOutcome → Seeking
said_seek_outcome r = record { answer = said r.result; walker = r.walker }
