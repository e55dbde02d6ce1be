pub mod Gather
pub mod Summary
