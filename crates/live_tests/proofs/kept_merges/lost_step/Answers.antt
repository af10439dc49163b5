use Rattle.std.proofs.Common.{rules, refl}
use Rattle.live_tests.proofs.kept_merges.lost_step.Goals as goal

pub returns : goal.returns
returns c = record { event = refl; input = refl; outputs = search rules; above = search rules; brought = λ h. absurd (cc) }
