pub mod StoredLaws
pub mod KeptLaws
pub mod MapLaws
pub mod PutLaws
pub mod EntryLaws
