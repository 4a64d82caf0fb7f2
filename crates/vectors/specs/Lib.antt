-- How stored answers are replayed: docs/VECTORS.md. Nothing of document 01.
pub mod Functions
pub mod Cases
pub mod Printed
