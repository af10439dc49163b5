use Rattle.vdi_directory.proofs.DecisionLaws.{held-was-free, held-works}
use Rattle.vdi_directory.proofs.laws.one_holds_a_disk.Goals as goal

pub returns-clause-free : goal.returns-clause-free
returns-clause-free c = held-was-free

pub returns-clause-works : goal.returns-clause-works
returns-clause-works c = held-works
