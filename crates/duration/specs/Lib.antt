-- The run length: docs/FORMAT.md, section 3.
pub mod Duration
pub mod Sentences
pub mod OnlyAboveCap
