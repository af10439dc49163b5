use Rattle.overlap_law.proofs.CreatedStays.{created_stays}
use Rattle.overlap_law.proofs.NoRecoveredDue.{began-with_past}
use Rattle.overlap_law.proofs.tables.what_was_created_stays_created.Goals as goal

pub returns : goal.returns
returns c = λ script moves start before after range is trail change oid epoch was.
    created_stays script range start before after (began-with_past script moves start is) change oid epoch was
