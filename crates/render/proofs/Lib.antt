pub mod Row
pub mod Refusals
pub mod Answers
