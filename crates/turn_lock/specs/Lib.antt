pub mod Growing
pub mod Turning
pub mod Locks
pub mod Batches
