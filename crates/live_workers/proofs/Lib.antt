pub mod BroughtLemmas
pub mod CellNumbers
pub mod OpeningCells
pub mod OtherStepLemmas
pub mod SeatLemmas
pub mod NewStepLemmas
pub mod PlaceLists
