pub mod Stored
pub mod Room
