pub mod GoodLists
pub mod NamedVictims
