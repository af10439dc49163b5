pub mod Union
pub mod Gathered
