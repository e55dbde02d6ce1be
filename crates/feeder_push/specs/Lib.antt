pub mod Push
pub mod Inner
