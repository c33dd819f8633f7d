pub mod ScriptLaws
pub mod LineParts
