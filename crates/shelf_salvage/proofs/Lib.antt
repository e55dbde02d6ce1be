pub mod Gathered
pub mod Blanking
pub mod Filled
pub mod Opening
