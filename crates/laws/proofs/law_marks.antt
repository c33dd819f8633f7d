pub mod Marks
pub mod Reports
