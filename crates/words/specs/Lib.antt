-- States and answers as words: docs/FORMAT.md, section 12.
pub mod Out
pub mod State
