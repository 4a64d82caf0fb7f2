-- The claim about writing calls, of a function that runs a whole list: docs/FORMAT.md, section 11.
pub mod Replay
pub mod Steps
