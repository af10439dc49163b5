pub mod Opcode
pub mod Header
pub mod Ids
pub mod Ask
pub mod Say
pub mod Work
