pub mod Halving
pub mod Claims
pub mod Range
