pub mod Pages
pub mod Entries
pub mod Checked
pub mod Search
pub mod Specs
pub mod Agreement
