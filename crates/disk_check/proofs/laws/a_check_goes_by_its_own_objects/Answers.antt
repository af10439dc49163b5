use Rattle.disk_check.proofs.CourseLemmas.{check_acts-begin}
use Rattle.disk_check.proofs.laws.a_check_goes_by_its_own_objects.Goals as goal

pub returns : goal.returns
returns c = check_acts-begin
