pub mod Measured
pub mod Told
