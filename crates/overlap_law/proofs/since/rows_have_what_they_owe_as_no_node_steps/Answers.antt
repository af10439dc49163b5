-- What holds of each moment of a run is at hand: attempts are shaped and tied, and what is known of epochs and nodes.
use Rattle.overlap_law.proofs.FinishedInMoments.{TermsHold, kept_terms}
use Rattle.overlap_law.proofs.NoRecoveredDue.{began-with_past}
use Rattle.overlap_law.proofs.RunsByChanges.{run-kept}
use Rattle.overlap_law.proofs.SinceAtEvents.{since_elsewhere}
use Rattle.overlap_law.proofs.StayingRows.{RowsHold, kept_rows}
use Rattle.overlap_law.proofs.since.rows_have_what_they_owe_as_no_node_steps.Goals as goal

pub returns : goal.returns
returns c = λ script moves start event made good range is happened kind none since.
    let holds = run-kept script RowsHold (kept_rows script range) moves start is in
    since_elsewhere script range start (began-with_past script moves start is) good
    (run-kept script TermsHold (kept_terms script range) moves start is) holds.shaped holds.tied since event made happened kind none
