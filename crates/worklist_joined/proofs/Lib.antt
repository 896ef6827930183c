pub mod Ends
pub mod RowLaws
pub mod FieldLaws
pub mod Quotes
