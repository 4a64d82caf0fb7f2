-- The finished recording, the claims about whole lists of calls on it and on every file that has an index, and a recording that was cut: docs/FORMAT.md,
-- sections 8 and 11.
pub mod Grammar
pub mod Drain
pub mod Machine
pub mod Check
pub mod Indexed
pub mod Summary
pub mod WriteLists
pub mod Cut
pub mod CutJumps
pub mod Lists
pub mod ByValue
pub mod Together
