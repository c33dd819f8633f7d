pub mod Walks
pub mod Left
pub mod Moved
