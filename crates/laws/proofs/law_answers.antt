pub mod Counts
pub mod InOrder
pub mod AtWork
pub mod Frames
pub mod Failures
pub mod Fares
pub mod Refusals
