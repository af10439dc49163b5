use Rattle.guest_driver.proofs.CourseLemmas.{begin_goes, done_goes}
use Rattle.guest_driver.proofs.laws.entries_follow_their_objects.Goals as goal

pub returns-clause-begun : goal.returns-clause-begun
returns-clause-begun c = begin_goes

pub returns-clause-done : goal.returns-clause-done
returns-clause-done c = done_goes
