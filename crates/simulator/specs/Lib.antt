pub mod Outcomes
pub mod Inputs
pub mod Ends
pub mod Lawful
