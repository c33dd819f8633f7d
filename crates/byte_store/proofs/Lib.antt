pub mod PartLaws
pub mod SlotLaws
pub mod StoredLaws
