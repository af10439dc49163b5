use Rattle.disk_check.proofs.CourseLemmas.{check_on_done-waits}
use Rattle.disk_check.proofs.laws.a_check_waits_for_works.Goals as goal

pub returns : goal.returns
returns c = check_on_done-waits
