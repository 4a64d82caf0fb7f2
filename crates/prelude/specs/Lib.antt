-- The prelude, built and parsed: docs/FORMAT.md, sections 2 and 4.
pub mod Layout
pub mod Prelude
pub mod Built
pub mod Steps
pub mod Tags
pub mod Sentences
