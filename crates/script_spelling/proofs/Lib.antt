pub mod SpacedLaws
pub mod PartLaws
pub mod WholeText
pub mod CursorLaws
pub mod MarkText
