pub mod Uses
pub mod Heads
pub mod Bytes
pub mod Ends
