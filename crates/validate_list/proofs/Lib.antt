pub mod Lent
pub mod Shown
pub mod Acting
pub mod Waits
