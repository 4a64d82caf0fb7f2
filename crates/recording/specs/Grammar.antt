-- The finished recording: 01's grammar, as a description of files. Assumes nothing.
use Rattle.std.specs.Prelude.{◌≡◌, List, ◌++◌, ℕ, ◌≤◌, length}
use Rattle.chunk.specs.Chunk.{trailer_bytes}
use Rattle.error.specs.Answer.{accepted}
use Rattle.fields.specs.File.{file_limit}
use Rattle.prelude.specs.Layout.{prelude_len}
use Rattle.prelude.specs.Prelude.{strict_of}
use Rattle.prelude.specs.declared.prelude.AmvPrelude.{AmvPrelude}
use Rattle.walk.specs.Chunks.{Chunk, chunks_bytes, Lengths}

-- "a prelude passing 11 to 24"
abbrev pub Passes : List ℕ → Type 0
Passes bytes = (p : AmvPrelude) × (strict_of bytes ≡ accepted p)

-- "a file within the limit; a prelude passing 11 to 24; any number of chunks, even none, of the two tags, each followed by exactly
-- its length of bytes; the trailer; nothing more. Such a file is finished."
pub record Finished (file : List ℕ) (cs : List Chunk) : Type 0 where
  pub prelude : List ℕ
  pub passes : Passes prelude
  pub whole : length prelude ≡ prelude_len
  pub is : file ≡ prelude ++ (chunks_bytes cs ++ trailer_bytes)
  pub fits : length file ≤ file_limit
  pub lengths : Lengths cs
