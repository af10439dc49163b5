use Rattle.sheep_world.proofs.AskedInputs.{join_adds, leave_adds, reweight_adds}
use Rattle.sheep_world.proofs.laws.members_make_no_disk.Goals as goal

pub returns : goal.returns
returns c = record { join = join_adds; leave = leave_adds; reweight = reweight_adds }
