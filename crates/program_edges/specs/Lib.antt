pub mod Edges
pub mod Statuses
pub mod Texts
pub mod Written
