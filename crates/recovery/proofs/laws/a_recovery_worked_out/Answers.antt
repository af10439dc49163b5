use Rattle.std.proofs.Common.{refl}
use Rattle.recovery.specs.Level.{level_over}
use Rattle.recovery.specs.Tick.{tick_messages, tick_sends, state_after_tick}
use Rattle.recovery.specs.Steps.{recovery_from_epoch, recovery_on_reply, recovery_on_loss}
use Rattle.recovery.proofs.ExampleLemmas.{both_named, row_found}
use Rattle.recovery.proofs.laws.a_recovery_worked_out.Goals as goal

pub returns : goal.returns
unfolding recovery_from_epoch recovery_on_reply recovery_on_loss tick_messages tick_sends state_after_tick level_over
returns c = record {
  lists = refl;
  pending = both_named;
  level = refl;
  found = row_found;
  done = refl;
  again = refl;
  lower = refl;
  missing = refl;
  given_up = refl;
}
