pub mod Timelines
pub mod Fences
pub mod Sound
pub mod Histories
