pub mod BitLaws
pub mod BitWalks
pub mod BitWalksBack
