use Rattle.overlap_law.proofs.EndTargets.{has_to_the_end}
use Rattle.overlap_law.proofs.births.what_is_good_at_the_end_has_targets.Goals as goal

pub returns : goal.returns
returns c = λ script moves move start end before after range way first.
    has_to_the_end script range moves move start end before after way first
