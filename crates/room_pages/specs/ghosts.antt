pub mod InTurn
pub mod Leaving
