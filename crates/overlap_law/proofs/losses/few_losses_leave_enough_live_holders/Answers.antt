use Rattle.overlap_law.proofs.FewLosses.{kept_by_few, available_by_few}
use Rattle.overlap_law.proofs.losses.few_losses_leave_enough_live_holders.Goals as goal

pub returns : goal.returns
returns c = record {
  kept = λ counts log oid policy epoch is begun few. kept_by_few counts log oid policy epoch is begun few;
  available = λ counts log attempts oid is few. available_by_few counts log attempts oid is few;
}
