pub mod Work
pub mod Attempt
pub mod State
pub mod Step
pub mod Outcomes
pub mod Messages
pub mod Stage
pub mod Kept
