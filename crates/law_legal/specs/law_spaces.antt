pub mod Rising
pub mod Sides
