mod TrialLemmas
mod SoleWorkLemmas
