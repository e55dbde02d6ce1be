pub mod Record
pub mod Code
pub mod Sought
pub mod Turned
