use Rattle.overlap_law.proofs.JoinsInRuns.{joins_in_run}
use Rattle.overlap_law.proofs.laws.who_joins_is_new.Goals as goal

pub returns : goal.returns
returns c = λ script moves moment is_script is. joins_in_run script is_script moves moment is
