pub mod Digits
pub mod SpacedLaws
