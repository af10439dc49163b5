pub mod Field
pub mod Polynomial
pub mod Strip
pub mod Part
