pub mod Unquoted
