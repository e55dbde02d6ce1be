pub mod Patterns
pub mod Floors
pub mod Ceilings
