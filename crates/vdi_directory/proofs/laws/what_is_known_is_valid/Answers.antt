use Rattle.vdi_directory.proofs.ValidLemmas.{header-valid, parent-valid, snapshot-header}
use Rattle.vdi_directory.proofs.laws.what_is_known_is_valid.Goals as goal

pub returns-clause-headers : goal.returns-clause-headers
returns-clause-headers c = header-valid

pub returns-clause-parents : goal.returns-clause-parents
returns-clause-parents c = parent-valid

pub returns-clause-snapshots : goal.returns-clause-snapshots
returns-clause-snapshots c = snapshot-header
