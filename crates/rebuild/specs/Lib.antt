pub mod Rebuild
pub mod Room
