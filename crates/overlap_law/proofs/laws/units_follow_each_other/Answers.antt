use Rattle.overlap_law.proofs.UnitLemmas.{unit-follows}
use Rattle.overlap_law.proofs.laws.units_follow_each_other.Goals as goal

pub returns : goal.returns
returns c = unit-follows
