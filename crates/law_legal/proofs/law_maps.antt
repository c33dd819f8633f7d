pub mod Entries
pub mod Following
pub mod Stays
pub mod Tells
pub mod Right
