-- Words of text: docs/FORMAT.md, sections 13 and 15.
pub mod Text
pub mod Written
pub mod Puts
