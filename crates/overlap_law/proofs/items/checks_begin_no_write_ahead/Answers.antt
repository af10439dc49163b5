use Rattle.overlap_law.proofs.AheadInRuns.{checks-in_run}
use Rattle.overlap_law.proofs.items.checks_begin_no_write_ahead.Goals as goal

pub returns : goal.returns
returns c = λ script moves moment range is. checks-in_run script range moves moment is
