pub mod HeldLaws
pub mod TakingLaws
pub mod ManagedLaws
pub mod BackLaws
pub mod EndLaws
pub mod FindLaws
pub mod KnownLaws
pub mod FindingLaws
