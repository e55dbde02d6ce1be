pub mod Asked
pub mod Recorder
pub mod Mill
pub mod Files
