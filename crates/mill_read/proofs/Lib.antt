pub mod Copy
pub mod Answers
