pub mod Fall
pub mod Skipped
