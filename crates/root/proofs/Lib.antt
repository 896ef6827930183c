pub mod Walk
pub mod First
