use Rattle.overlap_law.proofs.HistoryCarried.{checks_may}
use Rattle.overlap_law.proofs.checks_read.what_checks_read_may_be_read.Goals as goal

pub returns : goal.returns
returns c = λ script range. checks_may script range
