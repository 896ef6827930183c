mod Laws
mod Index
mod Root
mod KeyText
mod Envelope
mod Encoding
pub mod NoEntries
pub mod Examples
pub mod FiveDigits
pub mod Blocks
