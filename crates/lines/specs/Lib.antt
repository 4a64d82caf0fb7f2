-- The lines of a listing: docs/FORMAT.md, section 13.
pub mod Lines
