pub mod Turns
pub mod Searching
pub mod Acting
pub mod BufferSearches
pub mod Rests
