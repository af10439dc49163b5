use Rattle.vdi_directory.proofs.KnownLemmas.{header-grant_outcome, clone-granted, snapshot-granted}
use Rattle.vdi_directory.proofs.laws.grants_are_known.Goals as goal

pub returns-clause-header : goal.returns-clause-header
returns-clause-header c = header-grant_outcome

pub returns-clause-clone : goal.returns-clause-clone
returns-clause-clone c = λ entries by session name base tag vid. clone-granted entries by session name vid base tag

pub returns-clause-snapshot : goal.returns-clause-snapshot
returns-clause-snapshot c = λ entries by session name tag vid. snapshot-granted entries by session name vid tag
