pub mod Told
pub mod Surveying
pub mod Blocks
pub mod Known
pub mod Left
pub mod Enough
