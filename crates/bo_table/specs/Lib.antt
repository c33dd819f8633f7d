pub mod Pages
pub mod Seen
