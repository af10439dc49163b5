use Rattle.overlap_law.specs.ShapedAttempts.{AreShaped}
use Rattle.overlap_law.specs.TiedAttempts.{IsTied}
use Rattle.overlap_law.proofs.FinishedInMoments.{TermsHold, kept_terms}
use Rattle.overlap_law.proofs.NoRecoveredDue.{began-with_past}
use Rattle.overlap_law.proofs.RunsByChanges.{on_the_way}
use Rattle.overlap_law.proofs.ShapedAttempts.{kept_shaped}
use Rattle.overlap_law.proofs.TiedInRuns.{kept_tied}
use Rattle.overlap_law.proofs.ToComeStays.{might_before}
use Rattle.overlap_law.proofs.tables.what_may_come_might_before.Goals as goal

pub returns : goal.returns
returns c = λ script moves start before after range is trail change oid unit j was now at comes.
    might_before script range start before after (began-with_past script moves start is) change
    (on_the_way script TermsHold (kept_terms script range) moves start before is trail)
    (on_the_way script AreShaped (kept_shaped script range) moves start before is trail)
    (on_the_way script IsTied (kept_tied script range) moves start before is trail) oid unit j was now at comes
