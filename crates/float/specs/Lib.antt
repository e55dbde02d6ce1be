pub mod Places
pub mod Sizes
pub mod Samples
