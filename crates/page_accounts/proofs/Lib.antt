pub mod Sums
pub mod Adding
pub mod Closing
