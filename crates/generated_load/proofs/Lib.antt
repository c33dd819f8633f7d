pub mod DrawLaws
pub mod DrawnLaws
pub mod LineLaws
pub mod BufferLaws
pub mod CommandLaws
pub mod PlainLaws
pub mod LoadLaws
