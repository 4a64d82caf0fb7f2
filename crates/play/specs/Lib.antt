-- What the program writes and plays. Nothing of document 01.
pub mod Recording
