pub mod Many
pub mod Entries
