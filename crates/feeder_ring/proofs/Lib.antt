pub mod Place
pub mod Copy
pub mod Runs
