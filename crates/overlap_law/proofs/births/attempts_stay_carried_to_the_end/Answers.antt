use Rattle.overlap_law.proofs.EndTargets.{carried_to_the_end}
use Rattle.overlap_law.proofs.births.attempts_stay_carried_to_the_end.Goals as goal

pub returns : goal.returns
returns c = λ script moves move start end before after range way first carried.
    carried_to_the_end script range moves move start end before after way first carried
