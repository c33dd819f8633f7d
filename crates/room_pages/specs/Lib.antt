pub mod ghosts
pub mod binding
pub mod Tables
