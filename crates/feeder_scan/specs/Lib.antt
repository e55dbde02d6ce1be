pub mod Holds
pub mod Scan
