use Rattle.overlap_law.proofs.RunLemmas.{past-follows}
use Rattle.overlap_law.proofs.laws.the_past_follows_the_run.Goals as goal

pub returns : goal.returns
returns c = past-follows
