pub mod Positions
pub mod HeldOnce
pub mod Owner
pub mod Mapped
pub mod There
