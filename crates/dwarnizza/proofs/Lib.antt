pub mod NarrowLaws
pub mod LentLaws
