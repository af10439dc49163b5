use Rattle.disk_history.proofs.LegalLemmas.{ledger_from-append, IsLegal-prefix, judged, first_illegal_is_illegal, one_first_illegal}
use Rattle.disk_history.proofs.laws.histories_go_step_by_step.Goals as goal

pub returns-clause-append : goal.returns-clause-append
returns-clause-append c = ledger_from-append

pub returns-clause-prefix : goal.returns-clause-prefix
returns-clause-prefix c = IsLegal-prefix

pub returns-clause-judged : goal.returns-clause-judged
returns-clause-judged c = judged

pub returns-clause-illegal : goal.returns-clause-illegal
returns-clause-illegal c = first_illegal_is_illegal

pub returns-clause-one_place : goal.returns-clause-one_place
returns-clause-one_place c = one_first_illegal
