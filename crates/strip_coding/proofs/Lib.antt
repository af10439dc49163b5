pub mod RowLaws
pub mod ChoiceLaws
pub mod WeightedSums
pub mod CodingLaws
pub mod InterpolateLaws
pub mod ChosenLaws
pub mod DecodeLaws
pub mod BlockByBlock
