pub mod Cuts
pub mod Hex
pub mod NameLaws
pub mod Numbers
pub mod Shown
