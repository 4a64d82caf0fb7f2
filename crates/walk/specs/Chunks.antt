-- Chunks as data, and their bytes. Assumes nothing.
use Rattle.std.specs.Prelude.{ℕ, ◌≤◌, List, [], ◌∷◌, ◌++◌, length}
use Rattle.chunk.specs.Chunk.{payload_limit}
use Rattle.fields.specs.Le.{le_bytes}
use Rattle.walk.specs.Walk.{kind_tag, trailer, Walk, stop, chunk}
use Rattle.walk.specs.declared.Kind.{Kind}

-- a chunk: its kind and its whole payload
pub data Chunk : Type 0 where
  chunk_of : Kind → List ℕ → Chunk

-- 01: "chunks .. of the two tags, each followed by exactly its length of bytes"
unfoldable pub chunk_bytes : Chunk → List ℕ
chunk_bytes (chunk_of kind payload) = le_bytes 4 (kind_tag kind) ++ (le_bytes 4 (length payload) ++ payload)

unfoldable pub chunks_bytes : List Chunk → List ℕ
chunks_bytes [] = []
chunks_bytes (c ∷ cs) = chunk_bytes c ++ chunks_bytes cs

-- a length is a u32
abbrev pub Lengths : List Chunk → Type 0
Lengths [] = Unit
Lengths (chunk_of kind payload ∷ cs) = (length payload ≤ payload_limit) × Lengths cs

-- the walk over whole chunks and the trailer, with n bytes after it
unfoldable pub walk_of : List Chunk → ℕ → Walk
walk_of [] n = stop (trailer n)
walk_of (chunk_of kind payload ∷ cs) n = chunk kind payload 0 (walk_of cs n)
