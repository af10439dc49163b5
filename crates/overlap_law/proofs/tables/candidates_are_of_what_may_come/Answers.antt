use Rattle.overlap_law.specs.TiedAttempts.{IsTied}
use Rattle.overlap_law.proofs.Candidates.{candidate_comes}
use Rattle.overlap_law.proofs.RunsByChanges.{on_the_way}
use Rattle.overlap_law.proofs.TiedInRuns.{kept_tied}
use Rattle.overlap_law.proofs.tables.candidates_are_of_what_may_come.Goals as goal

pub returns : goal.returns
returns c = λ script moves start moment range is trail vid index p entry entries same at.
    candidate_comes moment.world.hosts moment.past.attempts
    (on_the_way script IsTied (kept_tied script range) moves start moment is trail).fates.whole vid index entries same p entry at
