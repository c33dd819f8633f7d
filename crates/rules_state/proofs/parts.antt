pub mod OrderLaws
pub mod ListingLaws
pub mod UndoLaws
pub mod PinLaws
