pub mod Due
pub mod Represents
pub mod KindLaws
pub mod ScriptLaws
