-- Reports as texts, and the verdict on one.
pub mod EntryText
pub mod ReportText
pub mod Verdict
pub mod VerdictOf
