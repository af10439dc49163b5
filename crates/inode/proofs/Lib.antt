pub mod PolicyLemmas
pub mod TextLemmas
pub mod TableLemmas
pub mod SpecLemmas
pub mod SpelledLemmas
pub mod ReadLemmas
pub mod LengthLemmas
