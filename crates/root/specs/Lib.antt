pub mod Root
pub mod Lookup
