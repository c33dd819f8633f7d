pub mod SpanLaws
pub mod HoleLaws
pub mod FitLaws
pub mod GapLaws
pub mod EndLaws
pub mod ManagedLaws
