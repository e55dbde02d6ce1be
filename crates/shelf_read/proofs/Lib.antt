pub mod Blocks
pub mod Tested
pub mod Taken
