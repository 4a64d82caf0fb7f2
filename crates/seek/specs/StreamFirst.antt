-- What document 02, M-104, changes of the seek: "Wrong stream before wrong table." 01's order of the questions stands here beside it; no contract
-- is about that order any more. Assumes nothing.
use Rattle.std.specs.Prelude.{◌≡◌, ℕ, ◌%◌, ◌<◌, List, leb, ℤ, length}
use Rattle.chunk_index.specs.Entry.{entries_of}
use Rattle.demuxer.specs.Position.{in_range}
use Rattle.demuxer.specs.declared.walker.Walker.{Walker}
use Rattle.error.specs.Answer.{Answer, accepted, refused, numbered, ask, and_then}
use Rattle.table.specs.Table.{whole_records, good_entries}
use Rattle.seek.specs.Seek.{find, Seeking, landed, sought_from, seek_of}

-- 01: "whole 24s? 41. Stream 0 or 1? 42. Tags known and samples below 2^62? 43 .. State in range as above? 32"
unfoldable pub questions_before : List ℕ → Walker → ℕ → Answer Unit
questions_before table w stream =
    and_then (whole_records table)
    (λ _.
    ask (leb stream 1) 42 0
    (and_then (good_entries (entries_of table)) (λ _. ask (in_range w.position) 32 0 (accepted tt))))

-- the seek with its questions in that order
unfoldable pub seek_before : List ℕ → Walker → ℕ → ℤ → Seeking
seek_before table w stream request =
    sought_from (questions_before table w stream) w (landed (entries_of table) w stream (find stream request (entries_of table)))

-- 02: "stream above 1 with a length not a multiple of 24"
pub record BothWrong (table : List ℕ) (stream : ℕ) : Type 0 where
  pub no_stream : 1 < stream
  pub ragged : length table % 24 ≡ 0 → ⊥

-- for all tables, walkers, streams and requests
pub record StreamFirst : Type 0 where
  -- "Old answers that change: .. from 41 to 42"
  pub changed : (table : List ℕ) (w : Walker) (stream : ℕ) (request : ℤ) → BothWrong table stream
      → ((seek_before table w stream request).answer ≡ refused (numbered 41 0)) × ((seek_of table w stream request).answer ≡ refused (numbered 42 0))
  -- and no others: where not both are wrong, the answer and the walker after it are the old ones
  pub no_other : (table : List ℕ) (w : Walker) (stream : ℕ) (request : ℤ) → (BothWrong table stream → ⊥)
      → seek_of table w stream request ≡ seek_before table w stream request
  -- "The read-and-seek property is untouched, since refused seeks leave the position": every seek leaves the walker that it left before
  pub same_walker : (table : List ℕ) (w : Walker) (stream : ℕ) (request : ℤ)
      → (seek_of table w stream request).walker ≡ (seek_before table w stream request).walker
