pub mod StoredPages
pub mod Kept
pub mod StorePages
pub mod Maps
pub mod Writes
