-- What holds of each moment on the way of an event is at hand: attempts are shaped and whole, and what is asked is a message of one.
use Rattle.overlap_law.specs.ShapedAttempts.{AreShaped}
use Rattle.overlap_law.proofs.CopiesInMoments.{copies_after}
use Rattle.overlap_law.proofs.MakersInTraffic.{HasMakersOfAttempts, kept_makers}
use Rattle.overlap_law.proofs.NoRecoveredDue.{began-with_past}
use Rattle.overlap_law.proofs.RunsByChanges.{on_the_way}
use Rattle.overlap_law.proofs.ShapedAttempts.{kept_shaped}
use Rattle.overlap_law.proofs.WholeInRuns.{whole-on_the_way}
use Rattle.overlap_law.proofs.bytes.copies_stay_of_attempts.Goals as goal

pub returns : goal.returns
returns c = λ script moves start before after live range is trail change told copies.
    copies_after script range start before after (began-with_past script moves start is) change live
    (on_the_way script AreShaped (kept_shaped script range) moves start before is trail)
    (on_the_way script HasMakersOfAttempts (kept_makers script range) moves start before is trail)
    (whole-on_the_way script range moves start before is trail) told copies
