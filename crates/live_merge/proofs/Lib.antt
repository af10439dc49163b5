pub mod MergeLemmas
pub mod OpeningLemmas
pub mod PhasesDue
pub mod RoundLemmas
