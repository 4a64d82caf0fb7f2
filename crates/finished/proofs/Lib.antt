pub mod Checking
pub mod Sentences
