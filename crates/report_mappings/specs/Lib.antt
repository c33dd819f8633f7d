pub mod Requests
pub mod Faults
