pub mod Founds
pub mod Carried
