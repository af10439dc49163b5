use Rattle.overlap_law.proofs.CarriedChanges.{carried-on_the_way}
use Rattle.overlap_law.proofs.heart.attempts_stay_carried.Goals as goal

pub returns : goal.returns
returns c = λ script moves start before after range is trail change good has_targets carried.
    carried-on_the_way script range moves start before after is trail change good has_targets carried
