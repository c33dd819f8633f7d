pub mod PageLaws
pub mod ListSteps
pub mod ListLaws
pub mod Pins
pub mod LastLaws
