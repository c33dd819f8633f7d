pub mod Listing
pub mod Pins
pub mod Undo
