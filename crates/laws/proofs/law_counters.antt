pub mod Paid
pub mod Drawn
pub mod Law
