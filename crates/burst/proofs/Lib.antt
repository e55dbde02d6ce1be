pub mod Bounds
pub mod Answers
pub mod Grown
pub mod Jumps
pub mod Ends
