pub mod Cells
pub mod OtherSteps
pub mod PlaceSeats
pub mod NewSteps
