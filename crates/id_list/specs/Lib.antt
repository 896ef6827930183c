pub mod Ids
pub mod Place
