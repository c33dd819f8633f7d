pub mod OwnPages
pub mod NamedPlaces
pub mod Spared
