mod Workers
pub mod Lasting
pub mod Ends
