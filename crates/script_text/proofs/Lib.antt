pub mod Answered
pub mod Clean
pub mod Fronts
pub mod Known
pub mod Lines
pub mod Mapped
pub mod Ranges
