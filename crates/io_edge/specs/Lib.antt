pub mod Faults
pub mod Lines
pub mod Memory
pub mod ReadFault
pub mod Standard
pub mod Written
