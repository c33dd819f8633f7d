-- Marks and mappings: what a script asks for beside its commands.
pub mod Marks
pub mod Mapped
pub mod Spaces
pub mod ByName
