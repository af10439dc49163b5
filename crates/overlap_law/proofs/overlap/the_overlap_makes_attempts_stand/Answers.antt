use Rattle.overlap_law.proofs.StandingAttempts.{gives-stand}
use Rattle.overlap_law.proofs.overlap.the_overlap_makes_attempts_stand.Goals as goal

pub returns : goal.returns
returns c = gives-stand
