pub mod Terms
