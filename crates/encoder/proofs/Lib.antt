pub mod Rows
pub mod Stretch
pub mod Answers
