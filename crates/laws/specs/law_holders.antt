pub mod Holding
pub mod Maps
