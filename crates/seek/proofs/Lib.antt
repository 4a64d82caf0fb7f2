pub mod Records
pub mod Seeks
pub mod Sentences
pub mod StreamFirst
