pub mod Stored
pub mod Existence
