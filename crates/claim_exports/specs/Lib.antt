pub mod Questions
pub mod Claim
pub mod Filled
