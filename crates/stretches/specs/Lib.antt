pub mod Listed
pub mod Checked
