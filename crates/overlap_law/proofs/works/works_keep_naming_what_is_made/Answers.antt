use Rattle.overlap_law.proofs.CommandWorks.{others_name}
use Rattle.overlap_law.proofs.DriverWorks.{asked_name}
use Rattle.overlap_law.proofs.NamedWorks.{works_stay_named}
use Rattle.overlap_law.proofs.NoRecoveredDue.{began-with_past}
use Rattle.overlap_law.proofs.works.works_keep_naming_what_is_made.Goals as goal

pub returns : goal.returns
returns c = λ script moves start before after live good_id range ran trail change calls entries_made own_made inodes said.
    works_stay_named script range good_id start (began-with_past script moves start ran) change
    (asked_name script range moves start before ran trail good_id
    (others_name script range moves start before ran trail live good_id calls entries_made own_made inodes)) said
