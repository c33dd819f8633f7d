pub mod Explains
pub mod Refused
