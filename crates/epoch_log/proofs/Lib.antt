pub mod GreatestLemmas
pub mod EpochLemmas
pub mod RecoveredLemmas
pub mod MembersLemmas
pub mod TallyLemmas
pub mod AppendTestLemmas
