use Rattle.overlap_law.proofs.FateLemmas.{other-marked}
use Rattle.overlap_law.proofs.laws.other_attempts_hear_nothing.Goals as goal

pub returns : goal.returns
returns c = other-marked
