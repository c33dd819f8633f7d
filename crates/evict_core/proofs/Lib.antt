pub mod Lent
pub mod Rows
pub mod Entries
pub mod NoGhosts
