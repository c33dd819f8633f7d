pub mod PieceLaws
pub mod FrontLaws
