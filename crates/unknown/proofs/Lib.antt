pub mod Crossing
pub mod Meeting
pub mod Passing
pub mod Certain
pub mod Possible
pub mod Right
