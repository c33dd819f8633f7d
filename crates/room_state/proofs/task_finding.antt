pub mod Unfenced
pub mod Told
