-- A sound block decoded: docs/FORMAT.md, section 16.
pub mod Sound
pub mod Sentences
pub mod Steps
