use Rattle.overlap_law.proofs.TrafficOfChanges.{traffic}
use Rattle.overlap_law.proofs.laws.each_change_is_of_a_kind_of_traffic.Goals as goal

pub returns : goal.returns
returns c = λ script start before after range began change. traffic script range start began change
