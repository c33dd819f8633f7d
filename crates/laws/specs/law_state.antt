pub mod GoodState
pub mod Counters
pub mod Courses
