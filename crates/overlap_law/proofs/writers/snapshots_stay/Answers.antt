use Rattle.overlap_law.proofs.ClosedSnapshots.{snapped-later}
use Rattle.overlap_law.proofs.SnapshotChains.{chain_snapped}
use Rattle.overlap_law.proofs.writers.snapshots_stay.Goals as goal

pub returns-clause-once : goal.returns-clause-once
returns-clause-once c = λ log more vid was. snapped-later log vid was more

pub returns-clause-above : goal.returns-clause-above
returns-clause-above c = chain_snapped
