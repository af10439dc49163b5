use Rattle.overlap_law.proofs.CheckDoneInRuns.{value_kept}
use Rattle.overlap_law.proofs.checked.what_is_checked_stays_one_value.Goals as goal

pub returns : goal.returns
returns c = λ script events moment range run history later parts vid block req bytes value none.
    value_kept script range events moment run history later parts vid block req bytes value none
