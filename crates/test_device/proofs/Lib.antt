pub mod NextEntries
pub mod SizeLaws
