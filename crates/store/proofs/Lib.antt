pub mod Bytes
pub mod Chunks
pub mod Levels
pub mod Fits
pub mod Stored
pub mod Written
