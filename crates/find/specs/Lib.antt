pub mod Part
pub mod Run
pub mod Row
pub mod Way
pub mod Takes
pub mod Near
