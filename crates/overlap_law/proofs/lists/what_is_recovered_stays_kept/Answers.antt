use Rattle.overlap_law.proofs.KeptTogether.{complete_after, nothing_missing, there_after, kept_rows_after}
use Rattle.overlap_law.proofs.lists.what_is_recovered_stays_kept.Goals as goal

pub returns : goal.returns
returns c = λ script moves start before after range is trail change good alive carried carried_after kept complete has not_missing. (
  kept_rows_after script range moves start before after is trail change good alive carried carried_after kept complete has not_missing,
  complete_after script range moves start before after is trail change good alive carried carried_after kept complete has not_missing,
  there_after script range moves start before after is trail change good alive carried carried_after kept complete has not_missing,
  nothing_missing script range moves start before after is trail change good alive carried carried_after kept complete has not_missing,
)
