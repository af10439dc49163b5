pub mod Epochs
pub mod Places
pub mod Targets
