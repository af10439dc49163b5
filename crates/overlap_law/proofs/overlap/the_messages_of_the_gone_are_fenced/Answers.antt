use Rattle.overlap_law.proofs.OverlapLemmas.{gone-fenced}
use Rattle.overlap_law.proofs.overlap.the_messages_of_the_gone_are_fenced.Goals as goal

pub returns : goal.returns
returns c = gone-fenced
