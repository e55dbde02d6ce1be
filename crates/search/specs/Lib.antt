pub mod Entered
pub mod Quiet
pub mod Answer
