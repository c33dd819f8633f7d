pub mod Through
pub mod Ready
