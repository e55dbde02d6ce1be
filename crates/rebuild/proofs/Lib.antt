pub mod Nodes
pub mod Running
pub mod Right
