-- `build_chunk_index`. Assumes nothing.
use Rattle.std.specs.Prelude.{ℕ, ◌+◌, ◌*◌, min, Bool, true, cond, List, [], ◌∷◌, leb, length}
use Rattle.error.specs.Answer.{Answer, accepted, refused, numbered, ask, and_then}
use Rattle.fields.specs.File.{within_limit}
use Rattle.fields.specs.Le.{put}
use Rattle.chunk.specs.Chunk.{advance_total}
use Rattle.prelude.specs.Layout.{prelude_len}
use Rattle.demuxer.specs.Position.{start}
use Rattle.demuxer.specs.declared.position.Position.{Position}
use Rattle.walk.specs.Walk.{Stop, ran_out, trailer, unknown_tag, Walk, stop, chunk, past, file_walk}
use Rattle.walk.specs.declared.Kind.{Kind}
use Rattle.walk.specs.declared.Kind.TheVariants.{Frame, Sound}
use Rattle.chunk_index.specs.Entry.{entry_len, entry, table_bytes}
use Rattle.chunk_index.specs.declared.entry.ChunkIndexEntry.{ChunkIndexEntry}

-- 01: "A frame is recorded though its body is cut; sound only if min(8, length) payload bytes are there."
abbrev pub recorded : Kind → List ℕ → ℕ → Bool
recorded Frame payload missing = true
recorded Sound payload missing = leb (min 8 (length payload + missing)) (length payload)

-- the records that a walk makes from a position
unfoldable pub records : Position → Walk → List ChunkIndexEntry
records p (stop s) = []
records p (chunk kind payload missing rest) =
    cond (recorded kind payload missing) (entry kind p ∷ records (past p kind payload missing) rest) []

-- "Tag known? 31, place the chunk's offset."
abbrev pub stop_known : ℕ → Stop → Answer Unit
stop_known at ran_out = accepted tt
stop_known at (trailer n) = accepted tt
stop_known at unknown_tag = refused (numbered 31 at)

unfoldable pub tags_known : ℕ → Walk → Answer Unit
tags_known at (stop s) = stop_known at s
tags_known at (chunk kind payload missing rest) =
    cond (recorded kind payload missing) (tags_known (at + advance_total (length payload + missing)) rest) (accepted tt)

-- "File limit, 10, comes first."
unfoldable pub index_of : List ℕ → Answer (List ChunkIndexEntry)
index_of file = ask (within_limit file) 10 0 (and_then (tags_known prelude_len (file_walk file)) (λ _. accepted (records start (file_walk file))))

-- what the call answers, and the table as it leaves it
pub record Built : Type 0 where
  pub answer : Answer ℕ
  pub table : List ℕ

-- "Table holds all records? 40, place 0, after the walk. .. The answer is their count; bytes after them stay."
abbrev pub built_from : List ℕ → Answer (List ChunkIndexEntry) → Built
built_from table (accepted es) = record { answer = accepted (length es); table = put table 0 (table_bytes es) }
built_from table (refused r) = record { answer = refused r; table = table }

unfoldable pub build_of : List ℕ → List ℕ → Built
build_of file table =
    built_from table (and_then (index_of file) (λ es. ask (leb (entry_len * length es) (length table)) 40 0 (accepted es)))
