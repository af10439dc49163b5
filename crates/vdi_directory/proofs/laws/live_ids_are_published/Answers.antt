use Rattle.vdi_directory.proofs.DecisionLaws.{live-is}
use Rattle.vdi_directory.proofs.AscentLemmas.{live-ascends}
use Rattle.vdi_directory.proofs.laws.live_ids_are_published.Goals as goal

pub returns-clause-each : goal.returns-clause-each
returns-clause-each c = live-is

pub returns-clause-ascending : goal.returns-clause-ascending
returns-clause-ascending c = live-ascends
