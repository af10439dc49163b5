use Rattle.disk_history.proofs.LastingItems.{blocks_stay, acknowledged_stays}
use Rattle.disk_history.proofs.laws.legal_histories_keep.Goals as goal

pub returns-clause-disks : goal.returns-clause-disks
returns-clause-disks c = blocks_stay

pub returns-clause-acknowledged : goal.returns-clause-acknowledged
returns-clause-acknowledged c = acknowledged_stays
