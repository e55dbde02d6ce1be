pub mod Memory
pub mod Told
pub mod Lent
