pub mod Hops
pub mod Replayed
pub mod Answer
