pub mod Holders
pub mod Emitted
pub mod Keeps
pub mod Law
