pub mod Left
pub mod Fires
pub mod Answered
pub mod Written
