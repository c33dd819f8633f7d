pub mod Least
pub mod Marks
pub mod Fits
pub mod Candidates
pub mod Settled
