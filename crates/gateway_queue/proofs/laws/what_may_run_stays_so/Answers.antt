use Rattle.gateway_queue.proofs.RequestOrder.{may_run-pushed, may_run-done}
use Rattle.gateway_queue.proofs.laws.what_may_run_stays_so.Goals as goal

pub returns-clause-pushed : goal.returns-clause-pushed
returns-clause-pushed c = may_run-pushed

pub returns-clause-done : goal.returns-clause-done
returns-clause-done c = may_run-done
