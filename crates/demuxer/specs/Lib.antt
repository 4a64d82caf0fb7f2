-- One read: docs/FORMAT.md, section 5.
pub mod Position
pub mod Head
pub mod Packet
pub mod Read
pub mod Sentences
pub mod Steps
