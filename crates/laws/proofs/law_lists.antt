pub mod Bunches
pub mod OneList
pub mod TwelveLists
pub mod Keeps
pub mod Law
pub mod Caught
