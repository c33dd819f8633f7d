pub mod Draws
pub mod Buffers
pub mod Choices
pub mod Commands
pub mod Loads
