pub mod Salvaged
pub mod Files
pub mod Claim
