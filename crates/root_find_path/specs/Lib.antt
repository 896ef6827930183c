pub mod Path
pub mod Records
