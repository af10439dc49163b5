use Rattle.sheep_node.proofs.RecoverySteps.{recovery_may_step_at_opening, recovery_may_step_stays, fits_what_recovery_asked}
use Rattle.sheep_node.proofs.NodeLaws.{begins_at_entry, begins_back}
use Rattle.sheep_node.proofs.laws.a_recovery_may_step.Goals as goal

pub returns : goal.returns
returns c = record {
  opens = recovery_may_step_at_opening;
  stays = recovery_may_step_stays;
  entry = begins_at_entry;
  back = begins_back;
  reply = λ rsp node may apart. fits_what_recovery_asked rsp node apart may.condition;
}
