pub mod WhoLaws
pub mod ThemeLaws
