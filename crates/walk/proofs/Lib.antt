pub mod Walks
pub mod Walked
pub mod Chunked
pub mod Taken
pub mod Cut
