use Rattle.epoch_log.specs.Epochs.{epoch_of, is_settled}
use Rattle.epoch_log.proofs.GreatestLemmas.{greatest-passes, greatest-bound}
use Rattle.epoch_log.proofs.EpochLemmas.{settled_of-begun, settled_at-grows}
use Rattle.epoch_log.proofs.laws.settled_only_grows.Goals as goal

pub returns-clause-is_one : goal.returns-clause-is_one
returns-clause-is_one c = λ entries. greatest-passes (is_settled entries) (epoch_of entries) ((settled_of-begun entries).0)

pub returns-clause-begun : goal.returns-clause-begun
returns-clause-begun c = settled_of-begun

pub returns-clause-greatest : goal.returns-clause-greatest
returns-clause-greatest c = λ entries epoch some begun settled. greatest-bound (is_settled entries) (epoch_of entries) epoch some begun settled

pub returns-clause-grows : goal.returns-clause-grows
returns-clause-grows c = settled_at-grows
