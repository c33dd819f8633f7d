pub mod Tests
pub mod Choices
pub mod Typed
pub mod Bytes
pub mod Whys
pub mod Entries
pub mod Law
