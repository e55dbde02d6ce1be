pub mod Crossing
pub mod Meeting
pub mod Answer
