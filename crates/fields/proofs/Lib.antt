pub mod Laws
pub mod Signed
pub mod Impossible
