-- The listing of a file: docs/FORMAT.md, section 13.
pub mod Listing
pub mod Steps
