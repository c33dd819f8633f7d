pub mod SetLaws
pub mod NeedLaws
pub mod AddLaws
