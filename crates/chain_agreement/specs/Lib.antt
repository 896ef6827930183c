pub mod Plain
pub mod Agreement
