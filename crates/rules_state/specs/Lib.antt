pub mod parts
pub mod PlaceSearches
