pub mod Accesses
pub mod Known
pub mod Parts
pub mod Passing
