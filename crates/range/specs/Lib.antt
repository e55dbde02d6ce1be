pub mod Join
pub mod Part
pub mod Run
