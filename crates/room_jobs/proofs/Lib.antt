pub mod Sets
pub mod Names
pub mod Armed
pub mod Relisted
pub mod Put
pub mod Answered
