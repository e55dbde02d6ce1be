pub mod Ring
pub mod Slots
pub mod Bytes
pub mod Selects
pub mod Push
pub mod Left
pub mod Grows
pub mod Lists
