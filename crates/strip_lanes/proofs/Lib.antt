mod ProductLaws
mod LaneLemmas
mod SumLemmas
