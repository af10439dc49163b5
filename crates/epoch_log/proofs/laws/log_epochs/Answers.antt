use Rattle.epoch_log.proofs.MembersLemmas.{IsLog-members, IsLog-weights, IsLog-epochs, IsLog-push, IsLog-append, IsLog-prefix}
use Rattle.epoch_log.proofs.laws.log_epochs.Goals as goal

pub returns-clause-members : goal.returns-clause-members
returns-clause-members c = IsLog-members

pub returns-clause-weights : goal.returns-clause-weights
returns-clause-weights c = IsLog-weights

pub returns-clause-push : goal.returns-clause-push
returns-clause-push c = IsLog-push

pub returns-clause-append : goal.returns-clause-append
returns-clause-append c = IsLog-append

pub returns-clause-prefix : goal.returns-clause-prefix
returns-clause-prefix c = IsLog-prefix

pub returns-clause-epochs : goal.returns-clause-epochs
returns-clause-epochs c = IsLog-epochs
