pub mod Steps
pub mod Frames
pub mod Lent
pub mod Few
