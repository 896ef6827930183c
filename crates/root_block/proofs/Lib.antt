pub mod Signed
pub mod Reckoned
pub mod Laws
