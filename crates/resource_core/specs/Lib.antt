pub mod BuddyTaken
pub mod Choices
pub mod Places
pub mod RangeTaken
pub mod Resources
pub mod Tied
pub mod Vram
pub mod VramRooms
