pub mod Turns
pub mod Padded
pub mod Emptied
pub mod SwappedOut
