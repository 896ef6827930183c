pub mod Agreement
pub mod Rising
pub mod Reading
pub mod LookupAgrees
