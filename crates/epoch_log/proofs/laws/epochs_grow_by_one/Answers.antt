use Rattle.epoch_log.proofs.EpochLemmas.{epoch_at-grows}
use Rattle.epoch_log.proofs.laws.epochs_grow_by_one.Goals as goal

pub returns-clause-grows : goal.returns-clause-grows
returns-clause-grows c = epoch_at-grows
