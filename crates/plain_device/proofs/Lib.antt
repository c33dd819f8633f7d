pub mod ReadyLaws
pub mod DeviceLaws
pub mod EnactLaws
