pub mod Kept
pub mod Judged
