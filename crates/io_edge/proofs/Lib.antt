pub mod Moves
pub mod Told
pub mod LineEnds
