use Rattle.overlap_law.proofs.EpochLemmas.{run-changes_nothing}
use Rattle.overlap_law.proofs.NoRecoveredDue.{run-rested}
use Rattle.overlap_law.proofs.laws.peers_of_another_epoch_change_nothing.Goals as goal

pub returns : goal.returns
returns c = record {
  nothing = run-changes_nothing;
  rested = λ script moves moment n host e got. run-rested script moves moment e n host got;
}
