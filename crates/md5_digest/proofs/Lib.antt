pub mod MessageLaws
pub mod Cutting
