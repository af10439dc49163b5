pub mod State
pub mod Pending
pub mod Fence
pub mod Serve
pub mod Epochs
pub mod LogReading
pub mod Back
pub mod Example
