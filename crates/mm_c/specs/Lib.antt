pub mod BlockOwned
pub mod Calls
pub mod RangeOwned
pub mod States
pub mod UserValues
