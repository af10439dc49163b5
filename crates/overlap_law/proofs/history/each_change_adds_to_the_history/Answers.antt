use Rattle.overlap_law.proofs.HistoryInMoments.{history_grows}
use Rattle.overlap_law.proofs.history.each_change_adds_to_the_history.Goals as goal

pub returns : goal.returns
returns c = λ script start before after range began change. history_grows script range start began change
