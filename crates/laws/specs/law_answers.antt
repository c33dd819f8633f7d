pub mod InOrder
pub mod AtWork
pub mod Refusals
