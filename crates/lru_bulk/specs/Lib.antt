pub mod Nodes
pub mod Rings
pub mod Lists
pub mod Members
pub mod Sound
pub mod Relinks
