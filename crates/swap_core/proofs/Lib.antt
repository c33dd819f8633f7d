pub mod LiveLaws
pub mod VictimLaws
pub mod FillLaws
pub mod SwapLaws
