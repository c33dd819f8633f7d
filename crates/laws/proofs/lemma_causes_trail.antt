pub mod Found
pub mod Windows
pub mod Tasks
pub mod Stages
pub mod Framed
