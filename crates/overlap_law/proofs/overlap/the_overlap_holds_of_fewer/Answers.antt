use Rattle.overlap_law.proofs.FewerObjects.{overlap_of_fewer}
use Rattle.overlap_law.proofs.overlap.the_overlap_holds_of_fewer.Goals as goal

pub returns : goal.returns
returns c = λ live good good_id few_live few_good few_ids moment lives goods ids all. overlap_of_fewer lives goods ids moment all
