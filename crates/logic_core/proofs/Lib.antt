pub mod Codes
pub mod Drawn
