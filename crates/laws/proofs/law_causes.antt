pub mod WorkedVictim
pub mod Steps
pub mod Carry
pub mod Reasons
pub mod Along
pub mod Swaps
pub mod Refusals
pub mod Law
