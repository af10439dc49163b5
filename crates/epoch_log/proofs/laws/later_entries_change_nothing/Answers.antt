use Rattle.epoch_log.proofs.EpochLemmas.{members_in-take}
use Rattle.epoch_log.proofs.laws.later_entries_change_nothing.Goals as goal

pub returns-clause-members_at : goal.returns-clause-members_at
returns-clause-members_at c = members_in-take
