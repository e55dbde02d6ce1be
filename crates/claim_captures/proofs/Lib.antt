pub mod Words
pub mod Rows
pub mod Answers
pub mod Alike
pub mod Additive
pub mod Turns
