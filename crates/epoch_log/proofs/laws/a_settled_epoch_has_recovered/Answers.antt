use Rattle.epoch_log.proofs.RecoveredLemmas.{settled-recovered, recovered-settled}
use Rattle.epoch_log.proofs.laws.a_settled_epoch_has_recovered.Goals as goal

pub returns-clause-recovered : goal.returns-clause-recovered
returns-clause-recovered c = settled-recovered

pub returns-clause-settled : goal.returns-clause-settled
returns-clause-settled c = recovered-settled
