pub mod FilledLaws
pub mod PageLaws
pub mod Setting
pub mod TableLaws
