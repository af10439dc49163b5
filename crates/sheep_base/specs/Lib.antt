pub mod Fault
pub mod Host
pub mod Memory
pub mod Plan
pub mod Sink
pub mod Source
pub mod Sure
