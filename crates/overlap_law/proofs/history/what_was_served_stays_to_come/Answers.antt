use Rattle.overlap_law.specs.TiedAttempts.{IsTied}
use Rattle.overlap_law.proofs.RunsByChanges.{on_the_way}
use Rattle.overlap_law.proofs.ServedLast.{served_comes, served_stays}
use Rattle.overlap_law.proofs.TiedInRuns.{kept_tied}
use Rattle.overlap_law.proofs.history.what_was_served_stays_to_come.Goals as goal

pub returns-clause-comes : goal.returns-clause-comes
returns-clause-comes c = λ script moves start moment range is trail so may oid unit more served.
    served_comes so may moment.world.hosts moment.past.attempts oid unit
    (on_the_way script IsTied (kept_tied script range) moves start moment is trail).fates.whole served more

pub returns-clause-stays : goal.returns-clause-stays
returns-clause-stays c = λ script moves start before after range is trail change so may oid unit begins served.
    served_stays script range moves start before after is trail change so may oid unit begins served
