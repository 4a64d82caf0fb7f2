-- Answers and refusals: docs/FORMAT.md, sections 1 and 14.
pub mod Answer
pub mod Refusal
pub mod Sentences
