pub mod Members
pub mod Epochs
pub mod Appending
pub mod Tally
pub mod AppendTests
