use Rattle.overlap_law.proofs.MessagesInMoments.{opening_has, change_has, messages_in_run}
use Rattle.overlap_law.proofs.laws.open_works_have_messages.Goals as goal

pub returns-clause-opening : goal.returns-clause-opening
returns-clause-opening c = λ script. opening_has script

pub returns-clause-change : goal.returns-clause-change
returns-clause-change c = λ script start before after range began change have. change_has script range start began change have

pub returns-clause-run : goal.returns-clause-run
returns-clause-run c = λ script moves moment range is. messages_in_run script range moves moment is
