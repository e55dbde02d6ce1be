pub mod Ring
pub mod Bytes
pub mod Step
pub mod Push
