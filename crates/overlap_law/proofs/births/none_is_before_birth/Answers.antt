use Rattle.overlap_law.proofs.BornFirst.{none_early}
use Rattle.overlap_law.proofs.OrderedInRuns.{ordered-in_run}
use Rattle.overlap_law.proofs.births.none_is_before_birth.Goals as goal

pub returns : goal.returns
returns c = λ script moves start moment range is trail first good.
    none_early moment.world.wire moment.past.attempts (ordered-in_run script range moves start moment is trail) first good
