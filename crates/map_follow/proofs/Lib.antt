pub mod Standing
mod Areas
mod Ends
mod Step
mod Answered
pub mod Stands
pub mod Law
mod Pages
pub mod First
