use Rattle.overlap_law.proofs.TermsInRuns.{terms-in_run}
use Rattle.overlap_law.proofs.laws.epochs_and_nodes_are_kept.Goals as goal

pub returns : goal.returns
returns c = λ script moves moment range is. terms-in_run script range moves moment is
