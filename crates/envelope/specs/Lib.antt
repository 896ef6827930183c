pub mod Envelope
pub mod Content
