pub mod Kept
pub mod Done
pub mod Mapped
