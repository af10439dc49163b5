pub mod Stamps
pub mod Steps
pub mod Clock
pub mod Seat
pub mod Note
