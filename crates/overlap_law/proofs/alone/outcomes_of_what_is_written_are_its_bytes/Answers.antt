use Rattle.overlap_law.specs.TiedAttempts.{IsTied}
use Rattle.overlap_law.proofs.RunsByChanges.{on_the_way}
use Rattle.overlap_law.proofs.TiedInRuns.{kept_tied}
use Rattle.overlap_law.proofs.WrittenAlone.{alone_outcomes}
use Rattle.overlap_law.proofs.alone.outcomes_of_what_is_written_are_its_bytes.Goals as goal

pub returns : goal.returns
returns c = λ script moves start moment range ran trail vid payload piece is unit inside.
    alone_outcomes moment.world.hosts moment.past.attempts
    (on_the_way script IsTied (kept_tied script range) moves start moment ran trail).fates.whole vid payload piece is unit inside
