pub mod SpacedLaws
pub mod WrittenLines
pub mod Kept
pub mod Parts
pub mod LineLaws
pub mod PlainLaws
