pub mod Named
pub mod Least
pub mod Free
pub mod Held
pub mod Marked
pub mod Before
