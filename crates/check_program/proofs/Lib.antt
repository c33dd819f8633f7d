pub mod SplitLaws
pub mod FindLaws
pub mod ExactLaws
