use Rattle.vdi_directory.proofs.DecisionLaws.{grant_outcome-unused, grant_outcome-used, used-stays}
use Rattle.vdi_directory.proofs.laws.an_id_is_granted_once.Goals as goal

pub returns-clause-unused : goal.returns-clause-unused
returns-clause-unused c = grant_outcome-unused

pub returns-clause-used : goal.returns-clause-used
returns-clause-used c = grant_outcome-used

pub returns-clause-stays : goal.returns-clause-stays
returns-clause-stays c = used-stays
