pub mod OneOwner
pub mod Throughout
