use Rattle.vdi_ops.proofs.StepLemmas.{begin_awaited, decision_awaited, done_awaited, goes_on, may_be_refused, waits_for_entry}
use Rattle.vdi_ops.proofs.laws.a_command_waits_for_what_it_did.Goals as goal

pub returns-clause-begun : goal.returns-clause-begun
returns-clause-begun c = begin_awaited

pub returns-clause-decided : goal.returns-clause-decided
returns-clause-decided c = decision_awaited

pub returns-clause-done : goal.returns-clause-done
returns-clause-done c = done_awaited

pub returns-clause-entries : goal.returns-clause-entries
returns-clause-entries c = waits_for_entry

pub returns-clause-works : goal.returns-clause-works
returns-clause-works c = goes_on

pub returns-clause-refused : goal.returns-clause-refused
returns-clause-refused c = may_be_refused
