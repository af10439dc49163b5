use Rattle.vdi_directory.proofs.DeadLemmas.{dead-heirs, dead-stays}
use Rattle.vdi_directory.proofs.laws.the_dead_stay_dead.Goals as goal

pub returns-clause-heirs : goal.returns-clause-heirs
returns-clause-heirs c = dead-heirs

pub returns-clause-stays : goal.returns-clause-stays
returns-clause-stays c = dead-stays
