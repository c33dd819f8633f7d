-- What is said of a journal besides: complete, scheduled, causes, accounts, laws.
pub mod Account
pub mod After
pub mod OldSearch
pub mod Complete
pub mod DeadEnd
pub mod Scheduled
pub mod Spares
pub mod Causes
pub mod Laws
pub mod MarkLaws
