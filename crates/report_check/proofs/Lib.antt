pub mod GivenLaws
pub mod KeepLaws
pub mod TradeLaws
pub mod ReplayLaws
pub mod SpanLaws
pub mod TailLaws
