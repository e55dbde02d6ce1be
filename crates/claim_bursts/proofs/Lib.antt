pub mod Shown
pub mod Claim
