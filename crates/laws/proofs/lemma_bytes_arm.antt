pub mod Named
pub mod Fences
pub mod Arms
pub mod Writes
