pub mod Durations
pub mod RunLengths
pub mod Sentences
pub mod OnlyAboveCap
