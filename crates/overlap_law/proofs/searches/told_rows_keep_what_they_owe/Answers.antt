use Rattle.overlap_law.proofs.ToldSinceInRuns.{told_since-on_the_way}
use Rattle.overlap_law.proofs.searches.told_rows_keep_what_they_owe.Goals as goal

pub returns : goal.returns
returns c = λ script moves start before after good range is trail change since told.
    told_since-on_the_way script range moves start before after is trail change good since told
