pub mod Blocks
pub mod Near
pub mod Sentences
pub mod Stores
pub mod Table
