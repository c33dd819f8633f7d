pub mod BlockLaws
pub mod OpenLaws
