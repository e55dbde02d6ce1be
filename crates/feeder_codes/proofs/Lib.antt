pub mod Narrow
pub mod Leaves
pub mod ReadBack
