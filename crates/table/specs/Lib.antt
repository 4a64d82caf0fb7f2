-- Tables of records: docs/FORMAT.md, sections 6, 7 and 15.
pub mod Table
pub mod Steps
pub mod Sentences
