pub mod Chain
pub mod Lent
