pub mod Plain
pub mod LookupAgrees
