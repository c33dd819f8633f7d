pub mod Copies
pub mod Lefts
pub mod Mappings
pub mod Rooms
