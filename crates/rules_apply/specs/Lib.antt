pub mod Ready
pub mod Sure
