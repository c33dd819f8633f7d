pub mod SpanPages
pub mod Stretch
