pub mod PieceLemmas
pub mod TrimLemmas
pub mod ZeroLemmas
pub mod PageLemmas
