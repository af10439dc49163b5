pub mod Steps
pub mod Merging
