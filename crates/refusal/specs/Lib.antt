pub mod Number
pub mod Check
pub mod Outcome
pub mod Output
