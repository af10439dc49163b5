use Rattle.overlap_law.specs.ShapedAttempts.{AreShaped}
use Rattle.overlap_law.proofs.RunsByChanges.{event_kept, run-kept}
use Rattle.overlap_law.proofs.ShapedAttempts.{opening_shaped, change_shaped, kept_shaped}
use Rattle.overlap_law.proofs.laws.the_attempts_are_shaped.Goals as goal

pub returns-clause-opening : goal.returns-clause-opening
returns-clause-opening c = opening_shaped

pub returns-clause-change : goal.returns-clause-change
returns-clause-change c = λ script start before after range began change are. change_shaped script range start before after began change are

pub returns-clause-event : goal.returns-clause-event
returns-clause-event c =
    λ script move before after range began is are. event_kept script AreShaped (kept_shaped script range) move before after began is are

pub returns-clause-run : goal.returns-clause-run
returns-clause-run c = λ script moves moment range is. run-kept script AreShaped (kept_shaped script range) moves moment is
