pub mod FileNumber
