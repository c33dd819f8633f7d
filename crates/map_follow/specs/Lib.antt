pub mod Founds
pub mod Ends
pub mod Follows
pub mod Laws
