pub mod NodeMemory
pub mod Told
