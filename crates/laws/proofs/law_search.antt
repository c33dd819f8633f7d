pub mod Searches
pub mod FormSearches
pub mod FormSteps
pub mod Forms
pub mod TwoLists
pub mod FormScripts
