pub mod Lines
pub mod Most
pub mod Laws
