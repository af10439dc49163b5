use Rattle.overlap_law.proofs.NoMissingObjects.{none_missing}
use Rattle.overlap_law.proofs.objects.no_object_is_missing.Goals as goal

pub returns : goal.returns
returns c = λ script moves before event made range ran lacked happened.
    none_missing script range moves before event made ran lacked happened
