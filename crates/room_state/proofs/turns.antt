pub mod Threads
pub mod Turned
pub mod Works
pub mod BufferSearched
pub mod Finds
pub mod ListLaws
pub mod RestLaws
