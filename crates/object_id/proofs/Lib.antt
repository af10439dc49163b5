pub mod PieceLemmas
pub mod FieldLemmas
pub mod SameLemmas
pub mod TestLemmas
