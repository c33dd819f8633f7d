pub mod Mapped
pub mod Shown
pub mod Telling
pub mod GivenBack
pub mod Tables
pub mod After
