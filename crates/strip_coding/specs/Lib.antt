pub mod Choice
pub mod Sums
