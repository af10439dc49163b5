pub mod Circle
pub mod Placement
pub mod Points
pub mod Walk
