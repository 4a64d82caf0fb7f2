pub mod Verdicts
pub mod Going
