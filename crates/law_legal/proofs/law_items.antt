pub mod Tests
pub mod ListFacts
pub mod Places
pub mod Puts
pub mod Texts
pub mod Fits
pub mod FromMarks
