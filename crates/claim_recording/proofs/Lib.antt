pub mod Clauses
pub mod Pushes
pub mod Words
pub mod Selection
pub mod Demand
pub mod Existence
