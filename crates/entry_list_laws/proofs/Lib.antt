pub mod Checked
pub mod Written
pub mod Reading
