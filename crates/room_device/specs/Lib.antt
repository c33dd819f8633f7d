pub mod Idle
pub mod Needs
