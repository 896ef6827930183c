pub mod BlockLaws
pub mod Choice
