-- The register block: docs/FORMAT.md, section 17; lists of its steps, section 11.
pub mod Registers
pub mod Steps
pub mod Sentences
pub mod Lists
