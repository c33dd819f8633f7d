pub mod Stops
pub mod Totals
