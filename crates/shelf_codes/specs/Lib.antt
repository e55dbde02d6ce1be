pub mod Said
pub mod Salvaged
