pub mod TurnLaws
pub mod Earlier
pub mod Stops
