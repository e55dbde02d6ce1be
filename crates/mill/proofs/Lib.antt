pub mod Under
pub mod Cut
