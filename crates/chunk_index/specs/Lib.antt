-- Index and summary: docs/FORMAT.md, section 6.
pub mod Entry
pub mod Index
pub mod Summary
pub mod Steps
pub mod Sentences
pub mod Damaged
