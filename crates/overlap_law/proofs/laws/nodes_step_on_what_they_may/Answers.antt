use Rattle.overlap_law.proofs.KnownSteps.{together}
use Rattle.overlap_law.proofs.ServedInRuns.{may-in_run}
use Rattle.overlap_law.proofs.PiecesInRuns.{pieces_in_range}
use Rattle.overlap_law.proofs.laws.nodes_step_on_what_they_may.Goals as goal

pub returns : goal.returns
returns c = record {
  together = λ script world range began. together script range world began;
  may = λ script world n host cause range began there up caused. may-in_run script range world began n host there up cause caused;
  pieces = λ script world range began. pieces_in_range script range world began;
}
