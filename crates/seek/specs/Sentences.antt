-- 01's sentences about the indexed seek, a second time: by where the records stand in the table; and which of its questions is told, in the
-- order that 02, M-104, gives them. Assumes nothing.
use Rattle.std.specs.Prelude.{◌≡◌, ℕ, ◌+◌, ◌%◌, ◌≤◌, ◌<◌, true, false, List, [], ◌∷◌, ◌++◌, ℤ, pos, length}
use Rattle.std.specs.Int.Signed.{le_z}
use Rattle.chunk.specs.Chunk.{video_tag, audio_tag, stream_tag}
use Rattle.chunk_index.specs.Entry.{entries_of}
use Rattle.chunk_index.specs.declared.entry.ChunkIndexEntry.{ChunkIndexEntry}
use Rattle.demuxer.specs.Position.{InRange}
use Rattle.demuxer.specs.declared.position.Position.{Position}
use Rattle.demuxer.specs.declared.walker.Walker.{Walker}
use Rattle.error.specs.Answer.{accepted, refused, numbered}
use Rattle.error.specs.Sentences.{GivesBack, RefusedBy}
use Rattle.table.specs.Table.{good_entry}
use Rattle.table.specs.Sentences.{FirstNo, Good}
use Rattle.seek.specs.Seek.{stamp_of, seek_of}

-- a record of the stream whose stamp reaches the request
pub record Reaches (stream : ℕ) (request : ℤ) (e : ChunkIndexEntry) : Type 0 where
  pub of_stream_lem : e.tag ≡ stream_tag stream
  pub stamp : le_z request (pos (stamp_of stream e.position)) ≡ true

-- none of some records does
abbrev pub NoneReaches : ℕ → ℤ → List ChunkIndexEntry → Type 0
NoneReaches stream request [] = Unit
NoneReaches stream request (e ∷ es) = (Reaches stream request e → ⊥) × NoneReaches stream request es

-- the first record that does, and where the seek has gone
pub record GoneTo (table : List ℕ) (stream : ℕ) (request : ℤ) (stamp : ℕ) (p : Position) : Type 0 where
  pub before : List ChunkIndexEntry
  pub found : ChunkIndexEntry
  pub later : List ChunkIndexEntry
  pub is : entries_of table ≡ before ++ (found ∷ later)
  pub passed : NoneReaches stream request before
  pub reaches : Reaches stream request found
  pub there : p ≡ found.position
  pub stamped : stamp ≡ stamp_of stream found.position

-- the position past a last record: "the cursor is the last one's offset + 8, frames and blocks step past it, samples stay those before it"
pub record Past (e : ChunkIndexEntry) (p : Position) : Type 0 where
  pub cursor : p.cursor ≡ e.position.cursor + 8
  pub samples : p.samples.0 ≡ e.position.samples.0
  pub frame : e.tag ≡ video_tag → (p.frames.0 ≡ e.position.frames.0 + 1) × (p.blocks.0 ≡ e.position.blocks.0)
  pub block : e.tag ≡ audio_tag → (p.frames.0 ≡ e.position.frames.0) × (p.blocks.0 ≡ e.position.blocks.0 + 1)

pub record SeekSentences : Type 0 where
  -- "The first record of the stream whose stamp reaches the signed request sets cursor and counters, clears end, and its stamp is returned."
  pub found : (table : List ℕ) (w : Walker) (stream : ℕ) (request : ℤ) (stamp : ℕ) → (seek_of table w stream request).answer ≡ accepted stamp
      → (seek_of table w stream request).walker.end ≡ false → GoneTo table stream request stamp (seek_of table w stream request).walker.position
  -- "None: end is set; .. The stream's stamp is returned."
  pub none : (table : List ℕ) (w : Walker) (stream : ℕ) (request : ℤ) (stamp : ℕ) → (seek_of table w stream request).answer ≡ accepted stamp
      → (seek_of table w stream request).walker.end ≡ true
      → NoneReaches stream request (entries_of table) × (stamp ≡ stamp_of stream (seek_of table w stream request).walker.position)
  -- "with records" past the last
  pub last : (table : List ℕ) (w : Walker) (stream : ℕ) (request : ℤ) (stamp : ℕ) (front : List ChunkIndexEntry) (e : ChunkIndexEntry)
      → (seek_of table w stream request).answer ≡ accepted stamp → (seek_of table w stream request).walker.end ≡ true
      → entries_of table ≡ front ++ (e ∷ []) → Past e (seek_of table w stream request).walker.position
  -- "with none, counters and cursor stay"
  pub empty : (table : List ℕ) (w : Walker) (stream : ℕ) (request : ℤ) → entries_of table ≡ []
      → (seek_of table w stream request).walker.position ≡ w.position
  -- "Cut and trailer always stay."
  pub cut_stays : (table : List ℕ) (w : Walker) (stream : ℕ) (request : ℤ) → (seek_of table w stream request).walker.cut ≡ w.cut
  pub trailer_stays : (table : List ℕ) (w : Walker) (stream : ℕ) (request : ℤ) → (seek_of table w stream request).walker.trailer ≡ w.trailer
  -- 02: "The stream question moves ahead": 42 whatever table and walker are
  pub forty_two : (table : List ℕ) (w : Walker) (stream : ℕ) (request : ℤ) → 1 < stream
      → (seek_of table w stream request).answer ≡ refused (numbered 42 0)
  -- then the table's, whatever the walker is: "whole 24s? 41. .. 43, place of the record's start"
  pub forty_one : (table : List ℕ) (w : Walker) (stream : ℕ) (request : ℤ) → stream ≤ 1 → (length table % 24 ≡ 0 → ⊥)
      → (seek_of table w stream request).answer ≡ refused (numbered 41 0)
  pub forty_three : (table : List ℕ) (w : Walker) (stream : ℕ) (request : ℤ) (at : ℕ) → stream ≤ 1 → length table % 24 ≡ 0
      → FirstNo good_entry (entries_of table) at → (seek_of table w stream request).answer ≡ refused (numbered 43 at)
  -- then the walker's: "State in range as above? 32"
  pub thirty_two : (table : List ℕ) (w : Walker) (stream : ℕ) (request : ℤ) → stream ≤ 1 → Good table → (InRange w.position → ⊥)
      → (seek_of table w stream request).answer ≡ refused (numbered 32 0)
  -- and nothing else is refused
  pub accepts : (table : List ℕ) (w : Walker) (stream : ℕ) (request : ℤ) → stream ≤ 1 → Good table → InRange w.position
      → (stamp : ℕ) × ((seek_of table w stream request).answer ≡ accepted stamp)
  -- a refusal gives the walker back; the numbers are 42, 41, 43 and 32
  pub gives_back : (table : List ℕ) (stream : ℕ) (request : ℤ)
      → GivesBack (λ w. (seek_of table w stream request).answer) (λ w. (seek_of table w stream request).walker)
  pub numbers : (table : List ℕ) (w : Walker) (stream : ℕ) (request : ℤ)
      → RefusedBy (42 ∷ 41 ∷ 43 ∷ 32 ∷ []) (seek_of table w stream request).answer
