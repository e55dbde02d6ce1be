pub mod Searches
pub mod Salvaged
pub mod Claim
