pub mod EntryReading
pub mod HeadReading
pub mod Parsing
pub mod Read
pub mod Rules
