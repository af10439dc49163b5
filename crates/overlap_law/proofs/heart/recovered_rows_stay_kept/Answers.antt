use Rattle.overlap_law.proofs.KeptChanges.{kept-on_the_way}
use Rattle.overlap_law.proofs.heart.recovered_rows_stay_kept.Goals as goal

pub returns : goal.returns
returns c = λ script moves start before after range is trail change good alive has kept.
    kept-on_the_way script range moves start before after is trail change good alive has kept
