pub mod Joins
pub mod Part
pub mod Raw
pub mod Right
pub mod Scan
pub mod Apart
