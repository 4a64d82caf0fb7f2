-- Document 01's small file. Assumes nothing.
use Rattle.std.specs.Prelude.{List, [], ◌∷◌, ◌++◌, ℕ}
use Rattle.chunk.specs.Chunk.{trailer_bytes}
use Rattle.prelude.specs.Built.{prelude_bytes}
use Rattle.walk.specs.declared.Kind.TheVariants.{Frame, Sound}
use Rattle.walk.specs.Chunks.{chunk_of, chunks_bytes}

-- "E: width 8, height 8, fps 12, rate 8000, one channel; a 3-byte frame; a 10-byte block with count 2. 353 bytes."
unfoldable pub E : List ℕ
E =
    prelude_bytes 8 8 12 0 8000 1
    ++ (chunks_bytes (chunk_of Frame (1 ∷ 2 ∷ 3 ∷ []) ∷ chunk_of Sound (0 ∷ 0 ∷ 0 ∷ 0 ∷ 2 ∷ 0 ∷ 0 ∷ 0 ∷ 17 ∷ 34 ∷ []) ∷ [])
    ++ trailer_bytes)
