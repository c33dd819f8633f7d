pub mod Walks
pub mod Holding
pub mod Bound
pub mod Unbound
