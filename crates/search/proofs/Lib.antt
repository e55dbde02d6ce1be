pub mod Step
pub mod Part
pub mod Asked
pub mod Chunks
pub mod Quiet
pub mod Near
pub mod Within
pub mod Change
