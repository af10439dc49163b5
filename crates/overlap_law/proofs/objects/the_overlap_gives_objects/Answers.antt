use Rattle.overlap_law.proofs.NoMissingObjects.{none_missing}
use Rattle.overlap_law.proofs.objects.the_overlap_gives_objects.Goals as goal

pub returns : goal.returns
returns c = λ script range events before event made ran overlap happened.
    none_missing script range events before event made ran overlap.lacked happened
