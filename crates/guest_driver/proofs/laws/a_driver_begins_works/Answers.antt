use Rattle.guest_driver.proofs.WorkLemmas.{begin-works, done-works}
use Rattle.guest_driver.proofs.laws.a_driver_begins_works.Goals as goal

pub returns-clause-begun : goal.returns-clause-begun
returns-clause-begun c = begin-works

pub returns-clause-done : goal.returns-clause-done
returns-clause-done c = done-works
