pub mod Known
pub mod Needs
pub mod Fronts
pub mod Chosen
pub mod Read
pub mod Over
