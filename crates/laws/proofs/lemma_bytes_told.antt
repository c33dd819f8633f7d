pub mod Spots
pub mod Telling
pub mod ChoicePages
pub mod Shapes
pub mod Numbers
