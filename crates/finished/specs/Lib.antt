-- The check: docs/FORMAT.md, section 8.
pub mod Check
pub mod Sentences
