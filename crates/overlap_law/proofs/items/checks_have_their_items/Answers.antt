use Rattle.overlap_law.proofs.CheckedAlone.{alone-in_run, checks_have-in_run}
use Rattle.overlap_law.proofs.items.checks_have_their_items.Goals as goal

pub returns-clause-alone : goal.returns-clause-alone
returns-clause-alone c = λ script moves moment range is good_id. alone-in_run script range moves moment is good_id

pub returns-clause-all : goal.returns-clause-all
returns-clause-all c = λ script moves moment range is good_id. checks_have-in_run script range moves moment is good_id
