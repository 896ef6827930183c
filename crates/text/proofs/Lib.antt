pub mod PutLaws
pub mod TextLaws
pub mod Decimal
