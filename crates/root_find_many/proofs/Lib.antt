pub mod Laid
pub mod Seen
pub mod Whole
