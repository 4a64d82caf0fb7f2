-- The face for Rattle programs: docs/FORMAT.md, sections 5, 7 and 9; the claims about lists of its methods, section 11.
pub mod Progress
pub mod Reader
pub mod Writer
pub mod Lists
