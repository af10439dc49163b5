use Rattle.overlap_law.proofs.StandingInRuns.{checks_stand-in_run}
use Rattle.overlap_law.proofs.items.what_checks_write_stands.Goals as goal

pub returns : goal.returns
returns c = λ script moves moment range is. checks_stand-in_run script range moves moment is
