pub mod Found
pub mod Names
pub mod Order
pub mod Points
pub mod Remaps
pub mod Sides
