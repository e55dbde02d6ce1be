pub mod Gather
pub mod Laws
pub mod Answers
