pub mod Answers
pub mod Alike
pub mod Turns
pub mod Recordings
pub mod Fillings
pub mod Demand
pub mod Existence
