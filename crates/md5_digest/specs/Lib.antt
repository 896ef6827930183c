pub mod Message
pub mod Cutting
