use Rattle.overlap_law.proofs.CheckDoneInRuns.{checked_value}
use Rattle.overlap_law.proofs.checked.what_is_checked_is_one_value.Goals as goal

pub returns : goal.returns
returns c = λ script events event before after range run is req opened disk replies index unit own has.
    checked_value script range events before run event after is req opened disk replies index unit own has
