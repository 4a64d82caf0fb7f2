-- The cases of documents 01 and 02, and others for every number: docs/FORMAT.md, section 14 has the numbers.
pub mod Example
pub mod Cases
pub mod Numbers
pub mod Orders
pub mod Built
pub mod Listed
pub mod Pages
pub mod Sounds
pub mod Words
pub mod Registers
pub mod Cut
pub mod Jumps
