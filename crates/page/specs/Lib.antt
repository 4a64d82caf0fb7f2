-- The page for the printer: docs/FORMAT.md, section 15.
pub mod Page
pub mod Reading
pub mod Sentences
pub mod Steps
