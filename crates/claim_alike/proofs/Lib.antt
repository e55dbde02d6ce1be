pub mod Searches
pub mod Below
pub mod Cut
pub mod Alike
pub mod Rows
