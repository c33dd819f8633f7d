pub mod Finds
pub mod Ends
pub mod Exact
