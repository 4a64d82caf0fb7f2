pub mod Chunks
pub mod Headers
pub mod Interleaves
pub mod Tags
pub mod Sentences
