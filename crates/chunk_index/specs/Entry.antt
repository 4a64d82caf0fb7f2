-- A record of the index, and its 24 bytes. Assumes nothing.
use Rattle.std.specs.Prelude.{ℕ, zero, suc, ◌+◌, ◌/◌, List, [], ◌∷◌, ◌++◌, length}
use Rattle.fields.specs.Le.{le, le_bytes}
use Rattle.demuxer.specs.declared.position.Position.{Position}
use Rattle.walk.specs.Walk.{kind_tag}
use Rattle.walk.specs.declared.Kind.{Kind}
use Rattle.chunk_index.specs.declared.entry.ChunkIndexEntry.{ChunkIndexEntry}

-- 01: "Records are 24 bytes, no header"
abbrev pub entry_len : ℕ
entry_len = 24

-- the record of a chunk of a kind at a position
abbrev pub entry : Kind → Position → ChunkIndexEntry
entry kind p = record { tag = kind_tag kind; position = p }

-- "tag, u32 offset, u32 frames before, u32 blocks before, u64 samples before"
unfoldable pub entry_bytes : ChunkIndexEntry → List ℕ
entry_bytes e =
    le_bytes 4 e.tag
    ++ (le_bytes 4 e.position.cursor
    ++ (le_bytes 4 e.position.frames.0
    ++ (le_bytes 4 e.position.blocks.0
    ++ le_bytes 8 e.position.samples.0)))

unfoldable pub table_bytes : List ChunkIndexEntry → List ℕ
table_bytes [] = []
table_bytes (e ∷ es) = entry_bytes e ++ table_bytes es

-- the record at an offset of a table
unfoldable pub entry_at : List ℕ → ℕ → ChunkIndexEntry
entry_at table at =
    record {
      tag = le 4 table at;
      position =
          record {
            cursor = le 4 table (at + 4);
            frames = record { 0 = le 4 table (at + 8) };
            samples = record { 0 = le 8 table (at + 16) };
            blocks = record { 0 = le 4 table (at + 12) };
          };
    }

-- n records from an offset on
unfoldable pub entries_from : ℕ → List ℕ → ℕ → List ChunkIndexEntry
entries_from zero table at = []
entries_from (suc n) table at = entry_at table at ∷ entries_from n table (at + entry_len)

-- the records of a whole table
abbrev pub entries_of : List ℕ → List ChunkIndexEntry
entries_of table = entries_from (length table / entry_len) table 0
