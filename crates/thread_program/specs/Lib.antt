pub mod Launches
pub mod Actors
pub mod Ran
pub mod Counted
pub mod Threaded
