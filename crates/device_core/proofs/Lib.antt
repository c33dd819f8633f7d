mod Mappings
pub mod DoneLaws
mod Accessed
mod Behind
mod Bos
mod Empty
