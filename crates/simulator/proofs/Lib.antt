pub mod InputLaws
pub mod EndLaws
pub mod ReportLaws
pub mod RunLaws
pub mod DeviceLaws
