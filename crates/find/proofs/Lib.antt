pub mod Node
pub mod Going
pub mod Way
pub mod Line
pub mod Parts
pub mod Turn
pub mod Samples
