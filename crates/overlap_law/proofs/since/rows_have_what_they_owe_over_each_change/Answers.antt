-- What every run has of the moment is at hand.
use Rattle.overlap_law.proofs.HeldLevels.{has_made}
use Rattle.overlap_law.proofs.SinceKept.{since_kept}
use Rattle.overlap_law.proofs.since.rows_have_what_they_owe_over_each_change.Goals as goal

pub returns : goal.returns
returns c = λ script moves start before after range is trail change good alive kept carried passed told since.
    since_kept script range moves start is trail change good (record {
      has = has_made script range moves start before is trail good alive kept carried;
      passed = passed;
      since = since;
      told = told;
    })
