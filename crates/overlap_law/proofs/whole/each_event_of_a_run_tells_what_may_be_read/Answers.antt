use Rattle.overlap_law.proofs.HistoryCarried.{tells}
use Rattle.overlap_law.proofs.whole.each_event_of_a_run_tells_what_may_be_read.Goals as goal

pub returns : goal.returns
returns c = λ script range. tells script range
