pub mod CountLaws
pub mod FirstLaws
pub mod FoundLaws
