-- Writing: docs/FORMAT.md, section 9.
pub mod Writer
pub mod Steps
pub mod Sentences
