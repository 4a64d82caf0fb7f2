pub mod Tags
pub mod Printed
