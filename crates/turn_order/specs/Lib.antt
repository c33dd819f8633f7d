pub mod Left
pub mod Tickets
