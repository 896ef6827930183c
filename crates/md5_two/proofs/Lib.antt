pub mod TwoLaws
