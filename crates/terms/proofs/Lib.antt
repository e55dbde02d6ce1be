pub mod Unmet
pub mod Fold
