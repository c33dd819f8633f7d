pub mod Kept
pub mod Fits
pub mod Along
pub mod Mismatches
