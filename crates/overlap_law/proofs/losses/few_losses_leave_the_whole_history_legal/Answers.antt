use Rattle.overlap_law.proofs.FewLossesInRuns.{all_available, whole_legal}
use Rattle.overlap_law.proofs.losses.few_losses_leave_the_whole_history_legal.Goals as goal

pub returns : goal.returns
returns c = record {
  available = λ script moves moment range run few. all_available script range moves moment run few;
  legal = λ script moves moment range run few. whole_legal script range moves moment run few;
}
