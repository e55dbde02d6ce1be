pub mod Room
pub mod Last
pub mod Lines
pub mod Fire
pub mod Answer
pub mod Level
