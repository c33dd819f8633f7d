pub mod Room
pub mod Swaps
