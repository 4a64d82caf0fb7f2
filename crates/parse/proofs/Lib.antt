pub mod WaveFormats
pub mod Sentences
