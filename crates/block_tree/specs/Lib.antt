pub mod Masks
pub mod Searching
pub mod FreeSet
pub mod Pieces
pub mod Holding
