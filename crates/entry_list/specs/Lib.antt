pub mod Entries
pub mod Cursor
