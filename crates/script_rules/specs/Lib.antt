pub mod script_mappings
pub mod Jobs
pub mod Mentions
