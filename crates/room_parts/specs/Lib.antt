pub mod MoveSets
pub mod Takes
pub mod Dries
