use Rattle.overlap_law.proofs.RefusedInRuns.{refused_in_run}
use Rattle.overlap_law.proofs.writers.the_refused_are_answered.Goals as goal

pub returns : goal.returns
returns c = λ script moves moment is. refused_in_run script moves moment is
