pub mod buffer_set
pub mod Kept
pub mod Regions
pub mod Spots
pub mod Sets
pub mod Inside
pub mod Meaning
