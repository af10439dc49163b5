use Rattle.overlap_law.proofs.DiskEventsOfHolders.{event_none}
use Rattle.overlap_law.proofs.NoRecoveredDue.{began-with_past}
use Rattle.overlap_law.proofs.items.only_the_holder_begins_writes_of_its_disk.Goals as goal

pub returns : goal.returns
returns c = λ script moves before event made vid holder range is happened held.
    event_none script range before.world (began-with_past script moves before is) vid holder held event made happened
