use Rattle.overlap_law.proofs.FatesOfAttempts.{run-has_fates}
use Rattle.overlap_law.proofs.laws.each_target_has_its_fate.Goals as goal

pub returns : goal.returns
returns c = run-has_fates
