pub mod Searches
pub mod Claim
