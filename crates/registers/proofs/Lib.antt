pub mod Blocks
pub mod Performs
pub mod Bits
pub mod Sentences
pub mod Stamps
pub mod Lists
