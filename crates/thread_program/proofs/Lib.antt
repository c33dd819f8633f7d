pub mod ThreadLaws
pub mod CountLaws
pub mod DrawnLaws
