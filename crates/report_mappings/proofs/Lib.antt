pub mod SpacedLaws
pub mod Requests
pub mod Threads
pub mod Fits
pub mod Numbered
pub mod Following
