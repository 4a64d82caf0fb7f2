-- Jumps: docs/FORMAT.md, section 7.
pub mod Seek
pub mod Steps
pub mod Sentences
pub mod StreamFirst
