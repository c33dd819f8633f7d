pub mod Fronts
pub mod Patterns
pub mod Reach
