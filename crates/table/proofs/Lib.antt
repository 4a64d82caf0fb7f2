pub mod Records
pub mod Sentences
