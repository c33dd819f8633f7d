pub mod Emptied
pub mod Absent
