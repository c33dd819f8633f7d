pub mod Setting
pub mod PieceLaws
