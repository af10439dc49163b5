use Rattle.overlap_law.proofs.AvailableTargets.{has-on_the_way}
use Rattle.overlap_law.proofs.heart.what_is_good_has_targets.Goals as goal

pub returns : goal.returns
returns c = λ script moves start before after range is trail change births.
    has-on_the_way script range moves start before after is trail change births
