pub mod Numbers
pub mod Weighed
pub mod Made
