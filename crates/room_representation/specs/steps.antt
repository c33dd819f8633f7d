pub mod Courses
pub mod Lent
