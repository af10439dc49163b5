use Rattle.overlap_law.specs.TiedAttempts.{IsTied}
use Rattle.overlap_law.proofs.RunsByChanges.{event_kept, run-kept}
use Rattle.overlap_law.proofs.TiedInRuns.{opening_tied, change_tied, kept_tied}
use Rattle.overlap_law.proofs.laws.the_wire_and_the_attempts_stay_tied.Goals as goal

pub returns-clause-opening : goal.returns-clause-opening
returns-clause-opening c = opening_tied

pub returns-clause-change : goal.returns-clause-change
returns-clause-change c = λ script start before after range began change tied. change_tied script range start before after began change tied

pub returns-clause-event : goal.returns-clause-event
returns-clause-event c =
    λ script move before after range began is tied. event_kept script IsTied (kept_tied script range) move before after began is tied

pub returns-clause-run : goal.returns-clause-run
returns-clause-run c = λ script moves moment range is. run-kept script IsTied (kept_tied script range) moves moment is
