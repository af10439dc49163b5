pub mod Spelling
pub mod EventReading
pub mod EventWords
pub mod Lines
pub mod InputParts
pub mod Replay
