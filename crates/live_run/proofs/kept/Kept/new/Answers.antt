use Rattle.live_run.proofs.KeptLemmas.{none_kept}
use Rattle.live_run.proofs.kept.Kept.new.Goals as goal

pub invariant_of-result : goal.invariant_of-result
invariant_of-result c = none_kept c.new.result.items c.new-2.result.items c.new.ensures.items c.new-2.ensures.items
