pub mod Files
pub mod Claim
