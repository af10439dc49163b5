use Rattle.recovery.proofs.StepLemmas.{refused_lists_are_not_named}
use Rattle.recovery.proofs.ListingLemmas.{begun_waits, tick_waits, end_waits}
use Rattle.recovery.proofs.laws.lists_come_before_searches.Goals as goal

pub returns : goal.returns
returns c = record { begin = begun_waits; tick = tick_waits; end = end_waits; refused = refused_lists_are_not_named }
