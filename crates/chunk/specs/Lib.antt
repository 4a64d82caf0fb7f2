-- Chunks, and the interleave check: docs/FORMAT.md, sections 1 and 10.
pub mod Chunk
pub mod Interleave
pub mod Tags
pub mod Sentences
