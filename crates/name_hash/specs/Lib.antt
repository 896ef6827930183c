pub mod Hashlittle
pub mod NameHash
pub mod Examples
