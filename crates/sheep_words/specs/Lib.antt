pub mod Mode
pub mod Command
pub mod Found
