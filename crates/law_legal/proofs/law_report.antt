pub mod Cuts
pub mod Numbers
pub mod Names
pub mod Items
pub mod Listed
pub mod SmallWords
pub mod EntryWords
pub mod Journals
