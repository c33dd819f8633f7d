-- Scripts as texts: words, lines, the first broken rule.
pub mod Words
pub mod Spelling
pub mod CommandRules
pub mod MarkRules
pub mod ScriptRules
pub mod Cut
pub mod Reading
pub mod LineWords
pub mod LineRules
pub mod FirstFault
pub mod Readable
