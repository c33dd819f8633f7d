pub mod Accounts
pub mod Amounts
pub mod Counting
