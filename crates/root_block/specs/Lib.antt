pub mod Ids
pub mod Block
