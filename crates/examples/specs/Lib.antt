pub mod Inputs
pub mod Examples
pub mod FiveDigits
pub mod Blocks
