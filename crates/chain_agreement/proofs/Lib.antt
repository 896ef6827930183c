pub mod Record
pub mod Agreement
