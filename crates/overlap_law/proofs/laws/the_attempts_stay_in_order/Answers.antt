use Rattle.overlap_law.proofs.ChangesKeepAttempts.{keeps_ordered, keeps_latest}
use Rattle.overlap_law.proofs.MakersApart.{makers_apart-after}
use Rattle.overlap_law.proofs.WritersOfWorks.{works_may-after}
use Rattle.overlap_law.proofs.laws.the_attempts_stay_in_order.Goals as goal

pub returns-clause-ordered : goal.returns-clause-ordered
returns-clause-ordered c =
    λ script start before after range began change tied begins ordered.
    keeps_ordered script range start before after began change tied.incarnations begins ordered

pub returns-clause-latest : goal.returns-clause-latest
returns-clause-latest c =
    λ script start before after range began change tied have latest.
    keeps_latest script range start before after began change tied.incarnations have (makers_apart-after script range start began change)
    (works_may-after script range start began change) latest
