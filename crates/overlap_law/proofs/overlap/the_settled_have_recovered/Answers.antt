use Rattle.overlap_law.proofs.OverlapLemmas.{settled-recovered}
use Rattle.overlap_law.proofs.overlap.the_settled_have_recovered.Goals as goal

pub returns : goal.returns
returns c = settled-recovered
