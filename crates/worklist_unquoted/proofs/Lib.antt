pub mod Laws
pub mod Quoting
