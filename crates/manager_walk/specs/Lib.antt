pub mod Cutting
pub mod Walk
