pub mod TermLaws
pub mod PlaceLemmas
