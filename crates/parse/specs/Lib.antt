-- The bodies of a prelude and the preamble of a block: docs/FORMAT.md, sections 2, 4 and 10.
pub mod Header
pub mod WaveFormat
pub mod Preamble
pub mod Sentences
