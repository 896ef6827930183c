pub mod Paged
pub mod Again
pub mod Back
pub mod RoundTrip
