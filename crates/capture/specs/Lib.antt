pub mod Record
pub mod Numbers
pub mod Backed
pub mod Stored
pub mod Calls
