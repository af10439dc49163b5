pub mod Schedule
pub mod Merged
pub mod Stops
pub mod Generated
pub mod GeneratedScript
