use Rattle.overlap_law.proofs.MakersInTraffic.{HasMakersOfAttempts, kept_makers}
use Rattle.overlap_law.proofs.RunsByChanges.{run-kept}
use Rattle.overlap_law.proofs.rows.requests_are_of_attempts.Goals as goal

pub returns-clause-change : goal.returns-clause-change
returns-clause-change c = λ script start before after range began change makers.
    (kept_makers script range).keeps start before after began change makers

pub returns-clause-run : goal.returns-clause-run
returns-clause-run c = λ script moves moment range is. run-kept script HasMakersOfAttempts (kept_makers script range) moves moment is
