pub mod Wrong
pub mod Made
