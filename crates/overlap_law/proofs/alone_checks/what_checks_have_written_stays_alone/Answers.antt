use Rattle.overlap_law.proofs.AloneChecksInRuns.{written-in_run}
use Rattle.overlap_law.proofs.alone_checks.what_checks_have_written_stays_alone.Goals as goal

pub returns : goal.returns
returns c = λ script moves moment range ran. written-in_run script range moves moment ran
