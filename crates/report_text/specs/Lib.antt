pub mod WriteFault
pub mod Parts
pub mod Lines
