use Rattle.recovery.proofs.PendingLemmas.{pending_ascends, pending_has}
use Rattle.recovery.proofs.laws.what_is_pending.Goals as goal

pub returns : goal.returns
returns c = record { ascending = pending_ascends; has = pending_has }
