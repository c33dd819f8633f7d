pub mod Loops
pub mod Reaped
pub mod Lent
pub mod Freed
