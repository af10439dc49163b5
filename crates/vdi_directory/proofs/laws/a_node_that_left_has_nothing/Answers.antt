use Rattle.vdi_directory.proofs.DecisionLaws.{state_after_leave-holds-nothing, state_after_leave-reservations-nothing}
use Rattle.vdi_directory.proofs.laws.a_node_that_left_has_nothing.Goals as goal

pub returns-clause-locks : goal.returns-clause-locks
returns-clause-locks c = state_after_leave-holds-nothing

pub returns-clause-reservations : goal.returns-clause-reservations
returns-clause-reservations c = state_after_leave-reservations-nothing
