pub mod Pushes
pub mod Packets
pub mod Sound
