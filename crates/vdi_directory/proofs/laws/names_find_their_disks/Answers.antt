use Rattle.vdi_directory.proofs.LawfulEntries.{sound-log_effects}
use Rattle.vdi_directory.proofs.SnapshotLemmas.{listed-log_effects}
use Rattle.vdi_directory.proofs.WorkingLemmas.{found-working}
use Rattle.vdi_directory.proofs.laws.names_find_their_disks.Goals as goal

pub returns-clause-working : goal.returns-clause-working
returns-clause-working c = λ entries. (sound-log_effects entries).working

pub returns-clause-live_snapshots : goal.returns-clause-live_snapshots
returns-clause-live_snapshots c = λ entries. (sound-log_effects entries).live_snapshots

pub returns-clause-listed : goal.returns-clause-listed
returns-clause-listed c = listed-log_effects

pub returns-clause-found : goal.returns-clause-found
returns-clause-found c = found-working
