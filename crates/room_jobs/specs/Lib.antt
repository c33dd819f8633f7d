pub mod Standing
pub mod Uses
pub mod Work
pub mod Bodies
pub mod Listings
pub mod Writes
