pub mod Lives
pub mod Traces
pub mod Cases
