pub mod Each
pub mod Answers
