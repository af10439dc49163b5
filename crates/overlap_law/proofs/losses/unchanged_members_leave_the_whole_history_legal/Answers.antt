use Rattle.overlap_law.proofs.UnchangedMembers.{few_in_run, unchanged_legal}
use Rattle.overlap_law.proofs.losses.unchanged_members_leave_the_whole_history_legal.Goals as goal

pub returns : goal.returns
returns c = record {
  few = λ script moves range plain. few_in_run script range moves plain;
  legal = λ script moves moment range run plain. unchanged_legal script range moves moment run plain;
}
