pub mod Backed
pub mod Answer
pub mod Calls
pub mod Opened
