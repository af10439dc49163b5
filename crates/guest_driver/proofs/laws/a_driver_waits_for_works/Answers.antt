use Rattle.guest_driver.proofs.CourseLemmas.{waits}
use Rattle.guest_driver.proofs.laws.a_driver_waits_for_works.Goals as goal

pub returns : goal.returns
returns c = waits
