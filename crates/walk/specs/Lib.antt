-- Chunks, and the walk over them: docs/FORMAT.md, sections 1 and 6.
pub mod Walk
pub mod Steps
pub mod Chunks
