pub mod Accesses
pub mod Counts
pub mod Order
pub mod Pages
pub mod Peeks
pub mod Parts
pub mod Passed
