pub mod Written
pub mod NewStore
pub mod Taken
pub mod Files
pub mod Claim
