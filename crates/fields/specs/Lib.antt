-- Fields of bytes, and the file limit: docs/FORMAT.md, section 1.
pub mod File
pub mod Le
pub mod Capped
pub mod Steps
